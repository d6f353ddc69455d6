use Rattle.std.proofs.Common.{◌≡◌, ◌/◌, ◌%◌, arith}
use Rattle.runfile.specs.Layout.{entries}
use Rattle.runfile.proofs.Entry.to_bytes.Goals as goal

pub returns : goal.returns
unfolding entries
returns c =
    let offset : c.args.self.offset / 256 % 256 ≡ c.args.self.offset / 256 = omega arith in
    let count : c.args.self.count / 256 % 256 ≡ c.args.self.count / 256 = omega arith in
    rw (c.to_le_bytes.ensures, c.to_le_bytes-2.ensures, offset, count)
