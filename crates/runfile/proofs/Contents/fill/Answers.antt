use Rattle.std.proofs.Common.{ℕ, ◌≡◌, ◌+◌, ◌≤◌, List, [], ◌∷◌, length, ap, ◌∙◌, arith}
use Rattle.std.proofs.Math.ListN.{set, length-set}
use Rattle.figures.specs.Limits.{most_threads, most_operations, most_steps}
use Rattle.runfile.specs.declared.Contents.{Contents}
use Rattle.runfile.specs.Rows.{Passes, sum_to}
use Rattle.runfile.specs.Layout.{body_at, count_of}
use Rattle.runfile.specs.Answers.{rows_against}
use Rattle.runfile.proofs.Writer.{ready}
use Rattle.runfile.proofs.File.{length_file, length_entries, fill_pieces}
use Rattle.runfile.proofs.Contents.fill.Goals as goal

-- contents that every row let pass are few, and there is room for each part of their file
fitting : (s : Contents) (room : ℕ) → Passes (rows_against s room)
    → (length s.counts.now ≡ s.threads) × (s.threads ≤ most_threads) × (length s.operations.now ≤ most_operations)
    × (length s.schedule.now ≤ most_steps)
    × (sum_to (count_of s.counts.now) (length s.counts.now) ≡ length s.operations.now)
    × (body_at s.threads + length s.operations.now + length s.schedule.now ≤ room)
fitting s room passes =
    let r = ready s.threads s.keys s.counts.now s.operations.now s.schedule.now room passes in
    let long = length_file s.threads s.keys s.counts.now s.operations.now s.schedule.now r.0 in
    (r.0, r.1, r.2, r.3, r.4, omega arith)

pub bounds-out-0 : goal.bounds-out-0
bounds-out-0 c = let fits = fitting c.args.self.now (length c.args.out.now) c.requires in omega arith

pub bounds-out-1 : goal.bounds-out-1
bounds-out-1 c = let fits = fitting c.args.self.now (length c.args.out.now) c.requires in simp length-set (omega arith)

pub put_entries-requires : goal.put_entries-requires
put_entries-requires c = let fits = fitting c.args.self.now (length c.args.out.now) c.requires in simp length-set (omega arith)

-- the head is written where there is room
headed : (out : List ℕ) (threads keys : ℕ) → length (set (set out 0 threads) 1 keys) ≡ length out
headed out threads keys = length-set (set out 0 threads) 1 keys ∙ length-set out 0 threads

pub put-requires : goal.put-requires
put-requires c =
    let s = c.args.self.now in
    let fits = fitting s (length c.args.out.now) c.requires in
    let z = headed c.args.out.now s.threads s.keys in
    let long = ap length c.to_bytes.ensures ∙ length_entries _ (_ ∷ []) in
    omega arith

pub put-requires-2 : goal.put-requires-2
put-requires-2 c =
    let s = c.args.self.now in
    let fits = fitting s (length c.args.out.now) c.requires in
    let z = headed c.args.out.now s.threads s.keys in
    omega arith

pub put-requires-3 : goal.put-requires-3
put-requires-3 c =
    let s = c.args.self.now in
    let fits = fitting s (length c.args.out.now) c.requires in
    let z = headed c.args.out.now s.threads s.keys in
    omega arith

pub returns : goal.returns
returns c =
    let s = c.args.self.now in
    let fits = fitting s (length c.args.out.now) c.requires in
    c.put-3.ensures
    ∙ rw (c.put-2.ensures, c.put.ensures, c.to_bytes.ensures, c.put_entries.ensures)
    (fill_pieces s.threads s.keys s.counts.now s.operations.now s.schedule.now fits.0 fits.4 c.args.out.now)
