use Rattle.std.proofs.Common.{rules, ◌≡◌, ◌∙◌, refl, inl, inr}
use Rattle.std.specs.Prelude.{None, Some}
use Rattle.crossbeam_channel.specs.Claims.{view}
use Rattle.mx_journal.specs.Answers.{ticket_of}
use Rattle.mx_journal.specs.Slots.{slot_of}
use Rattle.mx_lock.specs.Lock.{engine_of}
use Rattle.mx_multi.specs.Seats.{MultiView}
use Rattle.mx_multi.proofs.Standing.{seat_read, received_version, sees_version, progress_from}
use Rattle.mx_multi.proofs.seated.Seated+Application+Q+O.progress.Goals as goal

pub invariant_of-self-inside-in_default-found : goal.invariant_of-self-inside-in_default-found
invariant_of-self-inside-in_default-found g c = (
  seat_read _ c.self-inside.inside.0.1.0.reader _ c.self-inside.invariant.0 c.in-Some.ensures.0,
  c.self-inside.invariant.1,
  received_version _ _ (sees_version _ _ (view c.self-inside.inside.0.1.0.key) c.self-inside.inside.0.1.0.reader c.find.new.self c.self-inside.inside.0.1.0.polled c.self-inside.inside.0.1.0.notes c.self-inside.inside.0.1.0.notes c.self-inside.inside.0.1.0.ties.entries c.self-inside.inside.0.1.0.mine c.self-inside.inside.0.1.0.given refl c.in-Some.ensures.0) c.self-inside.invariant.2,
  c.self-inside.invariant.3,
)

pub returns-in_default-found : goal.returns-in_default-found
returns-in_default-found g c =
    let none : ticket_of c.args.handle c.find.new.self.seen ≡ None = search rules in
    progress_from _ _ _ _ _ ((λ i. (c.self-inside.view_is i).seat) ∙ c.self.view_is) (sees_version _ _ (view c.self-inside.inside.0.1.0.key) c.self-inside.inside.0.1.0.reader c.find.new.self c.self-inside.inside.0.1.0.polled c.self-inside.inside.0.1.0.notes c.self-inside.inside.0.1.0.notes c.self-inside.inside.0.1.0.ties.entries c.self-inside.inside.0.1.0.mine c.self-inside.inside.0.1.0.given refl c.in-Some.ensures.0)
    (inl (none, refl, refl))

pub invariant_of-self-inside-2 : goal.invariant_of-self-inside-2
invariant_of-self-inside-2 g c =
    let key = c.self-inside.inside.0.1.0.key in
    let of : MultiView g.row.Q.Denot g.row.O.Denot = record { table = key.table_id; keys = key.me.0.of; engine = engine_of (view key); words = c.self-inside.inside.0.1.0.notes.of; limits = c.self-inside.inside.0.1.0.limits } in
    let of' : MultiView g.row.Q.Denot g.row.O.Denot = record { table = key.table_id; keys = key.me.0.of; engine = engine_of (view key); words = c.read_word.new.notes.of; limits = c.self-inside.inside.0.1.0.limits } in
    let same : of' ≡ of = λ i. record { table = key.table_id; keys = key.me.0.of; engine = engine_of (view key); words = (c.read_word.ensures.read i).of; limits = c.self-inside.inside.0.1.0.limits } in (
      seat_read _ c.self-inside.inside.0.1.0.reader _ c.self-inside.invariant.0 c.in-Some.ensures.0,
      c.self-inside.invariant.1,
      received_version _ _ (sees_version of of' (view key) c.self-inside.inside.0.1.0.reader c.find.new.self c.self-inside.inside.0.1.0.polled c.self-inside.inside.0.1.0.notes c.read_word.new.notes c.self-inside.inside.0.1.0.ties.entries c.self-inside.inside.0.1.0.mine c.self-inside.inside.0.1.0.given same c.in-Some.ensures.0) c.self-inside.invariant.2,
      c.self-inside.invariant.3,
    )

pub returns : goal.returns
returns g c =
    let key = c.self-inside.inside.0.1.0.key in
    let of : MultiView g.row.Q.Denot g.row.O.Denot = record { table = key.table_id; keys = key.me.0.of; engine = engine_of (view key); words = c.self-inside.inside.0.1.0.notes.of; limits = c.self-inside.inside.0.1.0.limits } in
    let of' : MultiView g.row.Q.Denot g.row.O.Denot = record { table = key.table_id; keys = key.me.0.of; engine = engine_of (view key); words = c.read_word.new.notes.of; limits = c.self-inside.inside.0.1.0.limits } in
    let same : of' ≡ of = λ i. record { table = key.table_id; keys = key.me.0.of; engine = engine_of (view key); words = (c.read_word.ensures.read i).of; limits = c.self-inside.inside.0.1.0.limits } in
    let added : (ticket_of c.args.handle c.find.new.self.seen ≡ Some c.in-Some-found.found.ticket) × (slot_of c.in-Some-found.found.ticket c.find.new.self.seen ≡ Some c.in-Some-found.found.slot) = search rules in
    progress_from _ _ _ _ _ ((λ i. (c.self-inside.view_is i).seat) ∙ c.self.view_is) (sees_version of of' (view key) c.self-inside.inside.0.1.0.reader c.find.new.self c.self-inside.inside.0.1.0.polled c.self-inside.inside.0.1.0.notes c.read_word.new.notes c.self-inside.inside.0.1.0.ties.entries c.self-inside.inside.0.1.0.mine c.self-inside.inside.0.1.0.given same c.in-Some.ensures.0)
    (inr (record { ticket = c.in-Some-found.found.ticket; slot = c.in-Some-found.found.slot; added = added.0; at = added.1; word = c.read_word.ensures }))
