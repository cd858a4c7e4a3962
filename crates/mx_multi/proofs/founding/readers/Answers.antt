use Rattle.std.proofs.Common.{◌∙◌, ◌+◌, ◌∷◌, [], ap, sym, subst, length, length-append, arith}
use Rattle.mx_board.specs.Board.{BoardState}
use Rattle.mx_multi.specs.Opening.{AreReaders}
use Rattle.mx_multi.proofs.Opening.{readers_more, reader_is}
use Rattle.mx_multi.proofs.founding.readers.Goals as goal

pub loop-number-preserved : goal.loop-number-preserved
loop-number-preserved c =
    let inv = c.loop-number.invariant in
    let items = c.in_ok-push_back.ensures.items in
    let was = c.loop-number.readers.items in
    let start = c.args.log.now in
    let r = c.in-Some.reader in
    let journal = ap (λ (z : BoardState). z.events) inv.0 in
    let book = ap (λ (z : BoardState). z.book) inv.0 in (
      c.reader.ensures.same ∙ inv.0,
      subst (AreReaders c.args.worker 0 start.events start.book) (sym items)
          (readers_more c.args.worker 0 start.events start.book was r inv.1 (reader_is c.args.worker c.loop-number.number (0 + length was) _ _ start.events _ start.book r c.in-Some.ensures.is c.maker.ensures journal book (omega (arith, inv.2)))),
      omega (arith, ap length items, length-append was (r ∷ []), inv.2),
      omega (arith, c.in_ok-push_back.ensures.len, inv.3),
    )
