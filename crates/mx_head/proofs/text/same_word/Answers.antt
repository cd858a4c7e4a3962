use Rattle.mx_head.proofs.TextLemmas.{same_word_test}
use Rattle.mx_head.proofs.text.same_word.Goals as goal

pub returns : goal.returns
returns c = same_word_test _ _ _ c.eq_ignore_ascii_case.ensures.test
