use Rattle.std.proofs.Common.{◌≡◌, ◌∙◌, ℕ, ap, sym, subst, refl, true, false, List, length, arith}
use Rattle.crossbeam_channel.specs.Claims.{view}
use Rattle.mx_append_log.specs.Log.{Mark}
use Rattle.mx_types.specs.declared.event.Event.{Event}
use Rattle.mx_types.specs.declared.origin.Origin.{Origin}
use Rattle.mx_lock.specs.Engine.{Content, EngineId, content}
use Rattle.mx_lock.specs.Lock.{engine_of, founder_at, known_of}
use Rattle.mx_lock.specs.Ties.{TieState}
use Rattle.mx_lock.specs.declared.key_view.KeyView.{KeyView}
use Rattle.mx_multi.specs.Seats.{MultiView}
use Rattle.mx_multi.specs.Opening.{AreNew, AreReaders, IsFounded}
use Rattle.mx_multi.proofs.Opening.{all_own}
use Rattle.mx_multi.proofs.founding.found.Goals as goal

-- the opening key, by what it knows
founder_is : (v : KeyView) (x : Content) (n : ℕ) → v ≡ founder_at x n → v ≡ founder_at (known_of v) n
founder_is v x n e = e ∙ ap (λ (w : KeyView). founder_at (known_of w) n) (sym e)

-- and once it has made others
later_is : (v w : KeyView) (x : Content) (n m k : ℕ) → v ≡ founder_at x k → w ≡ founder_at (known_of v) n → founder_at (known_of w) m ≡ founder_at x m
later_is v w x n m k e f = ap (λ (u : KeyView). founder_at (known_of u) m) f ∙ ap (λ (u : KeyView). founder_at (known_of u) m) e

pub returns : goal.returns
returns g c =
    let x = c.args.engine in
    let l = c.args.limits in
    let at = c.found-lock.result.0 in
    let all : EngineId = record { book = c.mark-start.result.book; opening = record { history = l.history; first = c.first-first.result; from = c.len-from.result }; ties = c.tie_mark-ties.result.book } in
    let book : c.mark-start.result.book ≡ x.book = ap (λ (m : Mark Event). m.book) c.mark-start.ensures in
    let opening : all.opening ≡ x.core.opening = λ i. record { history = sym c.requires.history i; first = c.first-first.ensures i; from = (c.len-from.ensures.length ∙ sym c.requires.begun) i } in
    let list : c.tie_mark-ties.result.book ≡ x.ties.book = ap (λ (m : TieState). m.book) c.tie_mark-ties.ensures in
    let here : all ≡ (content x).engine = λ i. record { book = book i; opening = opening i; ties = list i } in
    let told : c.tie_mark-ties.result.entries ≡ x.ties.entries = ap (λ (m : TieState). m.entries) c.tie_mark-ties.ensures in
    let founder = c.found-lock.ensures.key.1 in
    let engine : engine_of (view c.found-lock.result.1) ≡ all = ap engine_of founder ∙ sym here in
    let seen : (view c.found-lock.result.1).seen ≡ x.core.journal = ap (λ (k : KeyView). k.seen) founder in
    let later : engine_of (view c.skip.new.founder) ≡ all = ap engine_of c.skip.ensures.next ∙ ap engine_of c.seated-seats.ensures.next ∙ engine in
    let seen_later : (view c.skip.new.founder).seen ≡ x.core.journal = ap (λ (k : KeyView). k.seen) c.skip.ensures.next ∙ ap (λ (k : KeyView). k.seen) c.seated-seats.ensures.next ∙ seen in
    let m : MultiView g.row.Q.Denot g.row.O.Denot = record { table = at.table; keys = at.keys; engine = all; words = c.args.rooms.words.id; limits = l } in
    let seats : AreNew m x.core.journal x.ties.entries false 0 c.seated-seats.result.items =
    subst (λ (t : List Origin). AreNew m x.core.journal t false 0 c.seated-seats.result.items) told
    (subst (λ (j : List Event). AreNew m j c.tie_mark-ties.result.entries false 0 c.seated-seats.result.items) seen
    (subst (λ (e : EngineId). AreNew {Q = g.row.Q.Denot} {O = g.row.O.Denot} (record { table = at.table; keys = at.keys; engine = e; words = c.args.rooms.words.id; limits = l }) (view c.found-lock.result.1).seen c.tie_mark-ties.result.entries false 0 c.seated-seats.result.items) engine c.seated-seats.ensures.new)) in
    let workers : AreNew m x.core.journal x.ties.entries true 0 c.seated-workers.result.items =
    subst (λ (t : List Origin). AreNew m x.core.journal t true 0 c.seated-workers.result.items) told
    (subst (λ (j : List Event). AreNew m j c.tie_mark-ties.result.entries true 0 c.seated-workers.result.items) seen_later
    (subst (λ (e : EngineId). AreNew {Q = g.row.Q.Denot} {O = g.row.O.Denot} (record { table = at.table; keys = at.keys; engine = e; words = c.args.rooms.words.id; limits = l }) (view c.skip.new.founder).seen c.tie_mark-ties.result.entries true 0 c.seated-workers.result.items) later c.seated-workers.ensures.new)) in
    subst (λ (z : MultiView g.row.Q.Denot g.row.O.Denot). IsFounded l x z c.seated-seats.result.items c.seated-workers.result.items) (sym (c.with_key-owned.ensures ∙ c.of_parts-multi.ensures))
    (record {
      engine = here;
      limits = refl;
      seats_new = seats;
      seats_all = omega (arith, c.seated-seats.result.ok.0, c.seated-seats.ensures.all, c.requires.rooms.seats.1);
      workers_new = workers;
      workers_all = omega (arith, c.seated-workers.result.ok.0, c.seated-workers.ensures.all, c.requires.rooms.workers.1);
      seats_own = all_own m x.core.journal x.ties.entries false 0 c.seated-seats.result.items seats;
      workers_own = all_own m x.core.journal x.ties.entries true 0 c.seated-workers.result.items workers;
    })

pub seated-seats-requires-clause-founder : goal.seated-seats-requires-clause-founder
seated-seats-requires-clause-founder g c = founder_is _ _ _ c.found-lock.ensures.key.1

pub seated-seats-requires-clause-readers : goal.seated-seats-requires-clause-readers
seated-seats-requires-clause-readers g c =
    let key = c.found-lock.ensures.key.1 in
    subst (λ (v : KeyView). AreReaders false 0 v.seen (engine_of v).book c.args.rooms.for_seats.items) (sym key) c.requires.rooms.seats.0

pub seated-seats-requires-clause-begun : goal.seated-seats-requires-clause-begun
seated-seats-requires-clause-begun g c =
    let key = c.found-lock.ensures.key.1 in
    (c.len-from.ensures.length ∙ sym c.requires.begun ∙ sym (ap (λ (v : KeyView). (engine_of v).opening.from) key), c.len-from.ensures.length ∙ sym (ap (λ (v : KeyView). length v.seen) key))

pub seated-seats-requires-clause-ties : goal.seated-seats-requires-clause-ties
seated-seats-requires-clause-ties g c =
    let key = c.found-lock.ensures.key.1 in
    ap (λ (m : TieState). m.book) c.tie_mark-ties.ensures ∙ sym (ap (λ (v : KeyView). (engine_of v).ties) key)

pub seated-workers-requires-clause-founder : goal.seated-workers-requires-clause-founder
seated-workers-requires-clause-founder g c = founder_is _ _ _ c.skip.ensures.next

pub seated-workers-requires-clause-readers : goal.seated-workers-requires-clause-readers
seated-workers-requires-clause-readers g c =
    let key = c.skip.ensures.next ∙ later_is _ _ _ _ 17 _ c.found-lock.ensures.key.1 c.seated-seats.ensures.next in
    subst (λ (v : KeyView). AreReaders true 0 v.seen (engine_of v).book c.args.rooms.for_workers.items) (sym key) c.requires.rooms.workers.0

pub seated-workers-requires-clause-begun : goal.seated-workers-requires-clause-begun
seated-workers-requires-clause-begun g c =
    let key = c.skip.ensures.next ∙ later_is _ _ _ _ 17 _ c.found-lock.ensures.key.1 c.seated-seats.ensures.next in
    (c.len-from.ensures.length ∙ sym c.requires.begun ∙ sym (ap (λ (v : KeyView). (engine_of v).opening.from) key), c.len-from.ensures.length ∙ sym (ap (λ (v : KeyView). length v.seen) key))

pub seated-workers-requires-clause-ties : goal.seated-workers-requires-clause-ties
seated-workers-requires-clause-ties g c =
    let key = c.skip.ensures.next ∙ later_is _ _ _ _ 17 _ c.found-lock.ensures.key.1 c.seated-seats.ensures.next in
    ap (λ (m : TieState). m.book) c.tie_mark-ties.ensures ∙ sym (ap (λ (v : KeyView). (engine_of v).ties) key)

pub with_key-owned-requires-clause-own : goal.with_key-owned-requires-clause-own
with_key-owned-requires-clause-own g c =
    let kept = c.seated-workers.ensures.kept in
    let is = sym c.of_parts-multi.ensures in
    (kept.0 ∙ ap (λ (m : MultiView g.row.Q.Denot g.row.O.Denot). m.table) is, kept.1 ∙ ap (λ (m : MultiView g.row.Q.Denot g.row.O.Denot). m.keys) is, kept.2)

pub with_key-owned-requires-clause-free : goal.with_key-owned-requires-clause-free
with_key-owned-requires-clause-free g c =
    let next = c.seated-workers.ensures.next in
    (ap (λ (v : KeyView). v.holding) next, ap (λ (v : KeyView). v.told) next)
