use Rattle.std.proofs.Common.{◌≡◌, ◌∙◌, ap, length, sym}
use Rattle.logbook.specs.Pages.{Named}
use Rattle.mx_append_log.proofs.Appending.{exchange_keeps}
use Rattle.mx_append_log.proofs.log.AppendLog.try_add.Goals as goal

pub compare_exchange-found-requires : goal.compare_exchange-found-requires
compare_exchange-found-requires g c =
    let word = c.self.invariant.1 in
    let again = c.again-seen.ensures in
    let one_book : c.again-seen.result.book ≡ c.self.inside.word.book = cc (ap (λ s. s.book) again, ap (λ (w : Named). w.book) word) in
    let pen = c.no_pen-nothing.ensures in
    let offer = c.plain-offer.ensures in (
      ap (λ (w : Named). w.tracked) word,
      one_book,
      pen.0 ∙ one_book,
      offer.0,
      rw (ap (λ (w : Named). w.key) word, pen.1, offer.1, offer.3, c.requires) (exchange_keeps c.again-seen.result.log (g.M.Plain.ask c.args.about.now) c.self.inside.count (c.self.invariant.0 ∙ ap (λ s. length s.log) (sym again))),
    )
