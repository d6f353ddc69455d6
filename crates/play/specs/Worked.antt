-- Document 01's runs worked by hand, A to I, from the file's bytes on: what the run hands back.
use Rattle.std.specs.Prelude.{ℕ, ◌*◌, List, [], ◌∷◌, ◌++◌, replicate}
use Rattle.figures.specs.Limits.{most_operations, invalid}
use Rattle.runfile.specs.Layout.{file_of}
use Rattle.places.specs.Written.{per_entry}
use Rattle.play.specs.declared.Told.{Told}
use Rattle.play.specs.Run.{per_operation, told_of, results_of, entries_of}

-- a thread that steps so often
pub record Stretch : Type 0 where
  pub thread : ℕ
  pub repeats : ℕ

abbrev pub stretch : ℕ → ℕ → Stretch
stretch t n = record { thread = t; repeats = n }

abbrev pub steps : List Stretch → List ℕ
steps [] = []
steps (x ∷ s) = replicate x.repeats x.thread ++ steps s

-- all that is handed back
pub record Handed : Type 0 where
  pub told : Told
  pub results : List ℕ
  pub log : List ℕ

-- idle steps, snapshots announced, log entries; five numbers per operation; two per log entry
abbrev pub handed : ℕ → ℕ → ℕ → List ℕ → List ℕ → Handed
handed idle snapshots entries results log =
    record {
      told = record { number = 0; place = 0; entries = entries; idle = idle; snapshots = snapshots };
      results = results;
      log = log;
    }

-- with room for as many operations as there can be
unfoldable pub handed_back : List ℕ → Handed
handed_back f =
    record {
      told = told_of f (per_operation * most_operations) (per_entry * most_operations);
      results = results_of f;
      log = entries_of f;
    }

pub record Row : Type 0 where
  pub file : List ℕ
  pub back : Handed

abbrev pub case_a : Row
case_a =
    record {
      file = 0x02 ∷ 0x02 ∷ 0x0E ∷ 0x00 ∷ 0x01 ∷ 0x00 ∷ 0x0F ∷ 0x00 ∷ 0x02 ∷ 0x00 ∷ 0x11 ∷ 0x00 ∷ 0x1D ∷ 0x00 ∷ 0x01 ∷ 0x81 ∷ 0xC0 ∷ replicate 3 0x00 ++ replicate 26 0x01;
      back = handed 0 1 3 (invalid ∷ 1 ∷ 0 ∷ 3 ∷ 1 ∷ 1 ∷ 4 ∷ 8 ∷ 5 ∷ invalid ∷ 1 ∷ 9 ∷ 29 ∷ 21 ∷ invalid ∷ []) (0 ∷ 6 ∷ 1 ∷ 6 ∷ 2 ∷ 24 ∷ []);
    }

abbrev pub case_b : Row
case_b =
    record {
      file = file_of 2 1 (1 ∷ 1 ∷ []) (192 ∷ 0 ∷ []) (steps (stretch 0 15 ∷ stretch 1 5 ∷ stretch 0 6 ∷ stretch 1 2 ∷ []));
      back = handed 0 1 2 (0 ∷ 1 ∷ 26 ∷ 21 ∷ invalid ∷ 1 ∷ 16 ∷ 28 ∷ 7 ∷ 1 ∷ []) (0 ∷ 21 ∷ 1 ∷ 21 ∷ []);
    }

abbrev pub case_c : Row
case_c =
    record {
      file = file_of 2 1 (1 ∷ 1 ∷ []) (192 ∷ 0 ∷ []) (steps (stretch 0 15 ∷ stretch 1 5 ∷ stretch 0 5 ∷ []));
      back = handed 0 1 1 (invalid ∷ 1 ∷ 0 ∷ 20 ∷ invalid ∷ invalid ∷ 16 ∷ 0 ∷ 5 ∷ 1 ∷ []) (1 ∷ 20 ∷ []);
    }

abbrev pub case_d : Row
case_d =
    record {
      file = file_of 2 1 (1 ∷ 1 ∷ []) (192 ∷ 0 ∷ []) (steps (stretch 0 15 ∷ stretch 1 10 ∷ stretch 0 6 ∷ []));
      back = handed 0 1 2 (1 ∷ 1 ∷ 31 ∷ 21 ∷ invalid ∷ 1 ∷ 16 ∷ 25 ∷ 10 ∷ 1 ∷ []) (1 ∷ 20 ∷ 0 ∷ 26 ∷ []);
    }

abbrev pub case_e : Row
case_e =
    record {
      file = file_of 3 1 (1 ∷ 1 ∷ 1 ∷ []) (0 ∷ 64 ∷ 192 ∷ []) (steps (stretch 0 3 ∷ stretch 1 12 ∷ stretch 2 29 ∷ []));
      back = handed 0 1 3 (invalid ∷ 1 ∷ 0 ∷ 3 ∷ 1 ∷ 1 ∷ 4 ∷ 15 ∷ 12 ∷ 1 ∷ 0 ∷ 16 ∷ 44 ∷ 29 ∷ invalid ∷ []) (0 ∷ 6 ∷ 1 ∷ 12 ∷ 2 ∷ 37 ∷ []);
    }

abbrev pub case_f : Row
case_f =
    record {
      file = file_of 2 1 (1 ∷ 1 ∷ []) (192 ∷ 192 ∷ []) (steps (stretch 0 3 ∷ stretch 1 20 ∷ stretch 0 14 ∷ []));
      back = handed 0 1 2 (0 ∷ 1 ∷ 37 ∷ 17 ∷ invalid ∷ 0 ∷ 4 ∷ 23 ∷ 20 ∷ invalid ∷ []) (0 ∷ 18 ∷ 1 ∷ 18 ∷ []);
    }

abbrev pub case_g : Row
case_g =
    record {
      file = file_of 1 1 (2 ∷ []) (0 ∷ 0 ∷ []) (steps (stretch 0 11 ∷ []));
      back = handed 0 0 2 (1 ∷ 1 ∷ 7 ∷ 7 ∷ 0 ∷ 0 ∷ 8 ∷ 11 ∷ 4 ∷ invalid ∷ []) (0 ∷ 5 ∷ 1 ∷ 8 ∷ []);
    }

abbrev pub case_h : Row
case_h =
    record {
      file = file_of 2 1 (1 ∷ 1 ∷ []) (0 ∷ 0 ∷ []) (steps (stretch 0 1 ∷ stretch 1 1 ∷ stretch 0 1 ∷ stretch 1 1 ∷ stretch 0 1 ∷ stretch 1 6 ∷ stretch 0 3 ∷ []));
      back = handed 0 0 2 (1 ∷ 1 ∷ 14 ∷ 6 ∷ 1 ∷ 0 ∷ 2 ∷ 11 ∷ 8 ∷ invalid ∷ []) (0 ∷ 9 ∷ 1 ∷ 9 ∷ []);
    }

abbrev pub case_i : Row
case_i =
    record {
      file = file_of 1 1 (0 ∷ []) ([]) (steps (stretch 0 2 ∷ []));
      back = handed 2 0 0 ([]) ([]);
    }

abbrev pub rows : List Row
rows = case_a ∷ case_b ∷ case_c ∷ case_d ∷ case_e ∷ case_f ∷ case_g ∷ case_h ∷ case_i ∷ []
