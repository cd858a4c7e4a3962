use Rattle.std.proofs.Common.{◌≡◌, ◌∙◌, ap}
use Rattle.logbook.specs.Pages.{Named}
use Rattle.mx_append_log.proofs.Appending.{look_keeps}
use Rattle.mx_append_log.proofs.log.AppendLog.is_whole.Goals as goal

pub load-found-requires : goal.load-found-requires
load-found-requires g c =
    let word = c.self.invariant.1 in
    let again = c.again-seen.ensures in
    let one_book : c.learn.new.self.book ≡ c.self.inside.word.book = c.learn.ensures.0 ∙ cc (ap (λ s. s.book) again, ap (λ (w : Named). w.book) word) in
    let offer = c.plain-offer.ensures in (
      ap (λ (w : Named). w.tracked) word,
      one_book,
      offer.0,
      rw (ap (λ (w : Named). w.key) word, offer.3, c.requires.plain) (look_keeps c.learn.new.self.log c.plain-offer.result.ask),
    )
