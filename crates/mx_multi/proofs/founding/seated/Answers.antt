use Rattle.std.proofs.Common.{rules, ◌≡◌, ◌∙◌, ◌+◌, ap, sym, subst, refl, length, arith}
use Rattle.std.specs.Prelude.{vec_len}
use Rattle.crossbeam_channel.specs.Claims.{view}
use Rattle.std.proofs.lemmas.List.Elements.{All-pop}
use Rattle.mx_board.specs.Progress.{NoteState, new_seat}
use Rattle.mx_lock.specs.Ties.{TieState}
use Rattle.mx_lock.specs.Lock.{engine_of, founder_at, known_of, parent, child}
use Rattle.mx_multi.specs.Seats.{MultiView}
use Rattle.mx_board.specs.Board.{ReaderState, caught_up}
use Rattle.mx_multi.specs.Opening.{first_of, maker_of, AreReaders, AreNew}
use Rattle.mx_lock.specs.declared.key_view.KeyView.{KeyView}
use Rattle.mx_multi.proofs.Opening.{key_maker, new_more, new_at, new_received, is_new, length_more, seat_is_new}
use Rattle.mx_multi.proofs.founding.seated.Goals as goal

pub loop-reader-preserved : goal.loop-reader-preserved
loop-reader-preserved g c =
    let inv = c.loop-reader.invariant in
    let first = view c.args.founder.now in
    let j = first.seen in
    let e = engine_of first in
    let ties = c.args.ties.now.entries in
    let n = vec_len c.loop-reader.seats in
    let items = c.push_reserved.ensures.items in
    let was = c.loop-reader.seats.items in
    let r = c.in-Some.reader in
    let new = c.another-key.ensures.new in
    let more : vec_len c.push_reserved.new.self ≡ n + 1 = c.push_reserved.ensures.len in
    let next : first_of c.args.worker + n + 1 ≡ first_of c.args.worker + vec_len c.push_reserved.new.self = omega (arith, more) in
    let h = subst (AreReaders c.args.worker n j e.book) c.in-Some.ensures.items inv.readers in
    let m : MultiView g.row.Q.Denot g.row.O.Denot = record { table = c.args.lock.now.table; keys = c.args.lock.now.keys; engine = e; words = c.args.words.now.id; limits = c.args.limits } in
    let rest = All-pop (λ (z : NoteState). z ≡ new_seat c.args.words.now) _ _ _ c.pop.ensures.items inv.notes in
    let key = c.another-key.result in
    let of : MultiView g.row.Q.Denot g.row.O.Denot = record { table = key.table_id; keys = key.me.0.of; engine = engine_of (view key); words = c.in-Some-pop.own_notes.of; limits = c.args.limits } in
    let at : n ≡ 0 + length was = omega (arith, inv.made) in
    let told = ap (λ (z : TieState). z.entries) c.again.ensures in
    record {
      own = c.another-key.ensures.kept.0;
      founder = c.another-key.ensures.kept.1 ∙ ap parent inv.founder ∙ ap (founder_at (known_of first)) next;
      new = subst (AreNew m j ties c.args.worker 0) (sym items)
          (new_more m j ties c.args.worker 0 was _ inv.new (new_at m j ties c.args.worker n (0 + length was) _ at (is_new m of j first.claims (view key) r c.args.worker n (first_of c.args.worker + n) c.args.from c.args.words.now c.in-Some-pop.own_notes c.again.result.entries ties c.new.result c.new-given.result new.0.0 new.0.1 refl refl (search rules) refl refl (new.1 ∙ ap child inv.founder) h.0 c.requires.begun.0 told c.new.ensures c.new-given.ensures)));
      readers = subst (λ k. AreReaders c.args.worker k j e.book c.pop_front.new.self.items) (sym more) h.1;
      notes = rest.0;
      left = omega (arith, more, inv.left, c.in-Some-pop.ensures.len);
      room = c.push_reserved.ensures.capacity ∙ inv.room;
      made = length_more _ _ _ _ _ items inv.made more;
      all = omega (arith, more, inv.all, c.in-Some.ensures.len);
    }

pub invariant_of-push_reserved : goal.invariant_of-push_reserved
invariant_of-push_reserved g c =
    let inv = c.loop-reader.invariant in
    let first = view c.args.founder.now in
    let known = known_of first in
    let n = vec_len c.loop-reader.seats in
    let at = first_of c.args.worker + n in
    let r = c.in-Some.reader in
    let key = c.another-key.result in
    let new = c.another-key.ensures.new in
    let is : view key ≡ child (founder_at known at) = new.1 ∙ ap child inv.founder in
    let read : r ≡ caught_up (maker_of c.args.worker n) first.seen known.engine.book = (subst (AreReaders c.args.worker n first.seen known.engine.book) c.in-Some.ensures.items inv.readers).0 in
    let from : (engine_of (view key)).opening.from ≡ c.args.from = ap (λ (k : KeyView). (engine_of k).opening.from) is ∙ sym c.requires.begun.0 in (
      seat_is_new known at (view key) r (maker_of c.args.worker n) is (key_maker c.args.worker n (omega (arith, inv.all, c.in-Some.ensures.len, c.requires.few))) read,
      new.0.2,
      new_received _ (from ∙ c.requires.begun.1 ∙ sym (ap (λ (z : ReaderState). length z.seen) read)) (sym from) c.new.ensures,
      ap (λ (z : TieState). z.book) c.again.ensures ∙ c.requires.ties ∙ sym (ap (λ (k : KeyView). (engine_of k).ties) is),
    )
