-- What is printed of a run that couldn't begin.
use Rattle.std.specs.Prelude.{ℕ, List, ◌++◌, codes}
use Rattle.mx_save_rules.specs.Texts.{object_front, object_back}
use Rattle.mx_save_rules.specs.Words.{verdict_word}
use Rattle.mx_save_rules.specs.declared.end.Verdict.TheVariants as verdict

-- rule save-unbegun: A run that is out of memory before it asks for a URL prints nothing on standard output, and under --json one object, whose
-- URL is null.
--
-- the object of such a run, with the keys of that of a URL
abbrev pub unbegun_line : List ℕ
unbegun_line =
    object_front (codes "null") (verdict_word verdict.Failed) 27 0 0
    ++ object_back (codes "null") 0 0 (codes "null") (codes "\"out of memory\"")
