use Rattle.std.proofs.Common.{◌≡◌, ◌∙◌, ap, refl, subst, sym}
use Rattle.std.specs.Prelude.{IfOk, MatchOption, Some}
use mathlib.Core.List.{IsPrefix}
use Rattle.mx_message.specs.Message.{Waited}
use Rattle.mx_desk.specs.Calls.{ReadsMessage}
use Rattle.mx_desk.specs.Ties.{AreLater, ties_beside, ties_of}
use Rattle.mx_desk.proofs.Reading.{Reads, at_first, at_other, seats, waited_none}
use Rattle.mx_desk.proofs.Ties.{first_later}
use Rattle.mx_desk.proofs.seats.Seats.next.Goals.{in_default-via-in-Some+else-beside_waits, in_default-via-in_default}
use Rattle.mx_desk.proofs.seats.Seats.next.Goals as goal

pub returns-else-first_waits-clause-read : goal.returns-else-first_waits-clause-read
returns-else-first_waits-clause-read g c =
    let new = seats c.self.inside.first (Some c.read.new.seat) in
    subst (λ old. Reads old new c.read.result) c.self.view_is
    (at_other (seats c.self.inside.first c.self.inside.beside) new c.in-Some.seat c.read.new.seat c.read.result c.in-Some.is refl (waited_none c.self.inside.first) c.read.ensures.place c.read.ensures.read)

pub returns-in_default-clause-read : goal.returns-in_default-clause-read
returns-in_default-clause-read g c =
    let was = c.self.inside in
    let at = c.in_default.self-inside in
    let first : at.first ≡ was.first = elim c.in_default.branch [ in_default-via-in-Some+else-beside_waits w ↦ ap (λ s. s.first) w.self-inside-is | in_default-via-in_default w ↦ ap (λ s. s.first) w.self-inside-is ] in
    let beside : at.beside ≡ was.beside = elim c.in_default.branch [ in_default-via-in-Some+else-beside_waits w ↦ ap (λ s. s.beside) w.self-inside-is ∙ sym w.in-Some.is | in_default-via-in_default w ↦ ap (λ s. s.beside) w.self-inside-is ] in
    let seat = c.read-in_default.new.seat in
    let r = c.read-in_default.result in
    let new = seats seat at.beside in
    let read = subst (λ f. IfOk r (λ o. MatchOption o (Waited f seat) (λ t. ReadsMessage t.message.handle t.message.ticket t.message.outcome f seat))) first c.read-in_default.ensures.read in
    subst (λ old. Reads old new r) c.self.view_is (at_first (seats was.first was.beside) new r beside c.read-in_default.ensures.place read)

pub returns-in_default-clause-later : goal.returns-in_default-clause-later
returns-in_default-clause-later g c =
    let was = c.self.inside in
    let at = c.in_default.self-inside in
    let first : at.first ≡ was.first = elim c.in_default.branch [ in_default-via-in-Some+else-beside_waits w ↦ ap (λ s. s.first) w.self-inside-is | in_default-via-in_default w ↦ ap (λ s. s.first) w.self-inside-is ] in
    let beside : at.beside ≡ was.beside = elim c.in_default.branch [ in_default-via-in-Some+else-beside_waits w ↦ ap (λ s. s.beside) w.self-inside-is ∙ sym w.in-Some.is | in_default-via-in_default w ↦ ap (λ s. s.beside) w.self-inside-is ] in
    let seat = c.read-in_default.new.seat in
    let old = seats was.first was.beside in
    let new = seats seat at.beside in
    subst (λ s. AreLater (ties_of s) (ties_of new)) c.self.view_is
    (first_later (ties_of old) (ties_of new) (subst (λ f. IsPrefix f.ties seat.ties) first c.read-in_default.ensures.later) (ap ties_beside beside))
