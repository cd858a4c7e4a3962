-- What a URL ended with.
use Rattle.std.specs.Prelude.{◌≡◌, ◌≢◌, ℕ, ◌<◌, ◌^◌, Bool, true, false, List, Option, Some, None, is_some}
use Rattle.mx_types.specs.declared.code.Code.TheVariants as codes
use Rattle.mx_save_rules.specs.declared.code.SaveCode.{SaveCode}
use Rattle.mx_save_rules.specs.declared.code.SaveCode.TheVariants as code
use Rattle.mx_save_rules.specs.declared.end.Verdict.{Verdict}
use Rattle.mx_save_rules.specs.declared.end.Verdict.TheVariants as verdict
use Rattle.mx_save_rules.specs.declared.end.FramingWord.{FramingWord}
use Rattle.mx_save_rules.specs.declared.end.Transferred.{Transferred}
use Rattle.mx_save_rules.specs.Codes.{save_number}

-- what is reported of a URL, its bytes and those of its file's name as they were given
pub record EndValue : Type 0 where
  pub url : List ℕ
  pub verdict : Verdict
  pub code : SaveCode
  pub status : ℕ
  pub length : ℕ
  pub file : Option (List ℕ)
  pub hops : ℕ
  pub tries : ℕ
  pub framing : Option FramingWord
  pub error : Option (List ℕ)

abbrev pub end_value : List ℕ → Verdict → SaveCode → Option (List ℕ) → Transferred → Option (List ℕ) → EndValue
end_value url verdict code file t error = record {
  url = url;
  verdict = verdict;
  code = code;
  status = t.status;
  length = t.length;
  file = file;
  hops = t.hops;
  tries = t.tries;
  framing = t.framing;
  error = error;
}

-- whether a verdict names a file, and whether it is one of failure
abbrev pub names_file : Verdict → Bool
names_file verdict.Saved = true
names_file verdict.Done = false
names_file verdict.Skipped = true
names_file verdict.Failed = false

abbrev pub is_failure : Verdict → Bool
is_failure verdict.Failed = true
is_failure _ = false

-- A file is named by its verdict; a failed one has a code that isn't 0, and no other has; a failed one has no length; and the numbers fit.
pub record IsEnd (e : EndValue) : Type 0 where
  pub file : is_some e.file ≡ names_file e.verdict
  pub failed : is_failure e.verdict ≡ true → save_number e.code ≢ 0
  pub well : is_failure e.verdict ≡ false → e.code ≡ code.Transfer codes.Ok
  pub length : is_failure e.verdict ≡ true → e.length ≡ 0
  pub status_fits : e.status < 2 ^ 64
  pub length_fits : e.length < 2 ^ 64
  pub hops_fit : e.hops < 2 ^ 64
  pub tries_fit : e.tries < 2 ^ 64

-- the four ways in which a URL ends
abbrev pub saved_end : List ℕ → List ℕ → Transferred → EndValue
saved_end url file t = end_value url verdict.Saved (code.Transfer codes.Ok) (Some file) t None

abbrev pub done_end : List ℕ → Transferred → EndValue
done_end url t = end_value url verdict.Done (code.Transfer codes.Ok) None t None

abbrev pub skipped_end : List ℕ → List ℕ → EndValue
skipped_end url file =
    end_value url verdict.Skipped (code.Transfer codes.Ok) (Some file) (record { status = 0; length = 0; framing = None; hops = 0; tries = 0 }) None

abbrev pub failed_end : List ℕ → SaveCode → Transferred → Option (List ℕ) → EndValue
failed_end url c t error = end_value url verdict.Failed c None (record t { length = 0 }) error
