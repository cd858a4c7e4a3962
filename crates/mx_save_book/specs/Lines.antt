-- What is printed of URLs, as they end.
use Rattle.std.specs.Prelude.{◌≡◌, ◌≢◌, ℕ, Bool, true, false, if◌then◌else◌, List, [], ◌∷◌, ◌++◌, length, map, min, count_by, sum_by, None, Some, Option}
use Rattle.mx_run_io.specs.Ends.{Wrote, has_failed_write, is_pending}
use Rattle.mx_run_io.specs.declared.output.Output.{Output}
use Rattle.mx_save_rules.specs.Codes.{save_number}
use Rattle.mx_save_rules.specs.Ends.{EndValue, is_failure}
use Rattle.mx_save_rules.specs.Status.{after_notes, first_of}
use Rattle.mx_save_rules.specs.Texts.{end_line, json_line}
use Rattle.mx_save_rules.specs.declared.status.ExitStatus.{ExitStatus}
use Rattle.mx_save_rules.specs.declared.status.PlacedCode.{PlacedCode}
use Rattle.mx_save_book.specs.declared.tally.Tally.{Tally}

-- an end that was printed, with the place of its URL
pub record PrintedLineValue : Type 0 where
  pub place : ℕ
  pub end : EndValue

abbrev pub note_of : PrintedLineValue → PlacedCode
note_of t = record { place = t.place; number = save_number t.end.code }

-- what is printed of an end
abbrev pub line_of : Bool → EndValue → List ℕ
line_of json end = if json then json_line end else end_line end

-- and of all, in their order
abbrev pub text_of : Bool → List PrintedLineValue → List ℕ
text_of json [] = []
text_of json (t ∷ ts) = line_of json t.end ++ text_of json ts

pub record LinesValue (W : Type 0) : Type 0 where
  pub json : Bool
  pub status : ExitStatus
  pub output : Output W
  pub start : Output W
  pub told : List PrintedLineValue
  pub tally : Tally
  pub last : Option EndValue

-- a count of 64 bits, which stops at the greatest
abbrev pub counted : ℕ → ℕ
counted n = min n 18446744073709551615

-- of these ends: how many there are, how many of them are failures, and how many bytes the bodies have
abbrev pub tally_of : List PrintedLineValue → Tally
tally_of ts = record {
  ended = counted (length ts);
  failed = counted (count_by (λ t. is_failure t.end.verdict) ts);
  bytes = counted (sum_by (λ t. t.end.length) ts);
}

-- the last of them, if there is one
abbrev pub last_of : List PrintedLineValue → Option EndValue
last_of [] = None
last_of (t ∷ []) = Some t.end
last_of (_ ∷ t ∷ ts) = last_of (t ∷ ts)

-- The output since is the text of these ends, and it is flushed; the status is that of their codes; and they are counted, and the last of
-- them is kept.
pub record AreLines {W : Type 0} (contents : W → Option (List ℕ)) (l : LinesValue W) : Type 0 where
  pub written : has_failed_write l.output ≢ true → Wrote contents l.start l.output (text_of l.json l.told)
  pub flushed : has_failed_write l.output ≢ true → is_pending l.output ≡ false
  pub status : first_of l.status ≡ after_notes None (map note_of l.told)
  pub tally : l.tally ≡ tally_of l.told
  pub last : l.last ≡ last_of l.told

-- nothing was printed yet
pub record IsFreshLines {W : Type 0} (j : Bool) (o : Output W) (l : LinesValue W) : Type 0 where
  pub told : l.told ≡ []
  pub start : l.start ≡ o
  pub output : l.output ≡ o
  pub json : l.json ≡ j
