-- What a run knows of its input and its output.
use Rattle.std.specs.Prelude.{◌≡◌, ◌≢◌, ◌↔◌, ℕ, Bool, true, false, List, Option}
use Rattle.std.specs.Io.KnownBytes.{Appends}
use Rattle.mx_run_io.specs.declared.input.Input.{Input}
use Rattle.mx_run_io.specs.declared.output.Output.{Output}

-- the reader, how often it was read, and whether a read failed
abbrev pub reader_of : {R : Type 0} → Input R → R
reader_of input = input.reader

abbrev pub reads_of : {R : Type 0} → Input R → ℕ
reads_of input = input.reads

abbrev pub most_reads_of : {R : Type 0} → Input R → ℕ
most_reads_of input = input.most

abbrev pub has_failed_read : {R : Type 0} → Input R → Bool
has_failed_read input = input.failed

-- the writer, whether a write failed, and whether something was written since the last flush
abbrev pub writer_of : {W : Type 0} → Output W → W
writer_of output = output.writer

abbrev pub has_failed_write : {W : Type 0} → Output W → Bool
has_failed_write output = output.failed

abbrev pub is_pending : {W : Type 0} → Output W → Bool
is_pending output = output.pending

-- From old to new exactly this text was put into the output, as far as it is known what its writer holds.
abbrev pub Wrote : {W : Type 0} → (W → Option (List ℕ)) → Output W → Output W → List ℕ → Type 0
Wrote contents old new = Appends (contents (writer_of old)) (contents (writer_of new))

-- rule program-unwritten: An output that couldn't be written or flushed ends with 121.
--
-- How a run ends: its status is 121 exactly where the output couldn't be written, and else nothing is left pending in it.
pub record EndsRun {W : Type 0} (output : Output W) (status : ℕ) : Type 0 where
  pub unwritten : (status ≡ 121) ↔ (has_failed_write output ≡ true)
  pub flushed : status ≢ 121 → is_pending output ≡ false
