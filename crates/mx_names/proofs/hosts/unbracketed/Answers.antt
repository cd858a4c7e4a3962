use Rattle.std.proofs.Common.{arith}
use Rattle.std.specs.Prelude.{Some, None}
use Rattle.std.proofs.lemmas.Str.Pattern.{strip_prefix_char, strip_suffix_char}
use Rattle.mx_names.proofs.BracketLemmas.{inner_is, unopened, unclosed}
use Rattle.mx_names.proofs.hosts.unbracketed.Goals as goal

pub returns-in-Some-strip_suffix : goal.returns-in-Some-strip_suffix
returns-in-Some-strip_suffix c =
    inner_is _ _ _
    (strip_prefix_char 91 _ (Some c.in-Some.rest) c.in-Some.ensures.cases (omega arith))
    (strip_suffix_char 93 _ (Some c.in-Some-strip_suffix.inner) c.in-Some-strip_suffix.ensures.cases (omega arith))

pub returns-in-None-strip_suffix : goal.returns-in-None-strip_suffix
returns-in-None-strip_suffix c =
    unclosed _ _
    (strip_prefix_char 91 _ (Some c.in-Some.rest) c.in-Some.ensures.cases (omega arith))
    (strip_suffix_char 93 _ None c.in-None-strip_suffix.ensures.cases (omega arith))

pub returns-in-None : goal.returns-in-None
returns-in-None c = unopened _ (strip_prefix_char 91 _ None c.in-None.ensures.cases (omega arith))
