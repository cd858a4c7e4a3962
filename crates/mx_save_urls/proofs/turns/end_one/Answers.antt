use Rattle.std.proofs.Common.{◌∙◌, sym}
use Rattle.mx_save_urls.proofs.Asked.{awaited}
use Rattle.mx_save_urls.proofs.turns.end_one.Goals as goal

pub close-requires-clause-asked : goal.close-requires-clause-asked
close-requires-clause-asked g c = c.requires.asked (sym c.awaits.ensures ∙ c.if-awaits.true)

pub close-requires-clause-added : goal.close-requires-clause-added
close-requires-clause-added g c = awaited c.args.work.now.book.slots c.args.ended.at c.args.ended.ticket (sym c.awaits.ensures ∙ c.if-awaits.true)
