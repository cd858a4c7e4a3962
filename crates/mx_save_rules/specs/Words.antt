-- The words that are printed.
use Rattle.std.specs.Prelude.{ℕ, List, codes}
use Rattle.mx_save_rules.specs.declared.end.Verdict.{Verdict}
use Rattle.mx_save_rules.specs.declared.end.Verdict.TheVariants as verdict

abbrev pub verdict_word : Verdict → List ℕ
verdict_word verdict.Saved = codes "saved"
verdict_word verdict.Done = codes "done"
verdict_word verdict.Skipped = codes "skipped"
verdict_word verdict.Failed = codes "failed"
