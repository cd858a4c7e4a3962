-- A row that is found by its handle is the addition's, with its slot.
use Rattle.std.proofs.Common.{◌≡◌, ◌<◌, ℕ, ◌∙◌, sym, ap, subst, List, [], ◌∷◌, Bool, true, cond, map, arith}
use Rattle.std.specs.Prelude.{Option, Some, None, IfSome}
use Rattle.std.specs.List.{find, AllByRecursion}
use Rattle.std.proofs.lemmas.Bool.{eqb-true, ne_eqb}
use Rattle.mx_types.specs.declared.names.HandleId.{HandleId}
use Rattle.mx_types.specs.declared.event.Event.{Event}
use Rattle.mx_history.specs.declared.row.Row.{Row}
use Rattle.mx_history.specs.History.{IsInOrder, same_handle, same_ticket, is_legal}
use Rattle.mx_history.specs.Slots.{slot_of}
use Rattle.mx_history.specs.Rows.{table_of}
use Rattle.mx_history.proofs.Lists.{Each-map, Each-both, same-refl}
use Rattle.mx_history.proofs.Tables.{Each-unmapped, found, tickets-rows}
use Rattle.mx_history.proofs.SlotLists.{slot_found}
use Rattle.mx_history.proofs.TableLaws.{tabled}
use Rattle.mx_history.proofs.Tickets.{ordered}

abbrev FindsItself : List Row → Row → Type 0
FindsItself rows r = find (λ x. same_ticket r.ticket x.ticket) rows ≡ Some r

behind : (r x : Row) (rows : List Row) → r.ticket.0 < x.ticket.0 → FindsItself rows x → FindsItself (r ∷ rows) x
behind r x rows lt f =
    let other = ne_eqb x.ticket.0 r.ticket.0 (λ e. omega (arith, lt, e)) in
    ap (λ (b : Bool). cond {A = Option Row} b (Some r) (find (λ (y : Row). same_ticket x.ticket y.ticket) rows)) other ∙ f

-- rows with rising tickets are each found by their ticket
each_found : (rows : List Row) → IsInOrder (map (λ r. r.ticket) rows) → AllByRecursion (FindsItself rows) rows
each_found [] o = tt
each_found (r ∷ rows) o = (
  ap (λ (b : Bool). cond {A = Option Row} b (Some r) (find (λ (y : Row). same_ticket r.ticket y.ticket) rows)) (same-refl r.ticket),
  Each-both (λ (x : Row). r.ticket.0 < x.ticket.0) (FindsItself rows) (FindsItself (r ∷ rows)) (λ x lt f. behind r x rows lt f) rows
      (Each-unmapped (λ (x : Row). x.ticket) (λ u. r.ticket.0 < u.0) rows o.0) (each_found rows o.1),
)

abbrev HasItsSlot : List Event → Row → Type 0
HasItsSlot j r = slot_of r.ticket j ≡ Some r.slot

each_slot : (j : List Event) → is_legal j ≡ true → AllByRecursion (HasItsSlot j) (table_of j)
each_slot j l =
    Each-map (FindsItself (table_of j)) (HasItsSlot j) (λ r f. sym (slot_found j r.ticket (Some r) (sym f))) (table_of j)
    (each_found (table_of j) (subst IsInOrder (tickets-rows j (table_of j) (tabled j l)) (ordered j l)))

pub slot_only : (j : List Event) → is_legal j ≡ true → (p : Row → Bool) (o : Option Row) → o ≡ find p (table_of j) → IfSome o (HasItsSlot j)
slot_only j l p None e = tt
slot_only j l p (Some r) e = (found (HasItsSlot j) p (table_of j) (each_slot j l) r (sym e)).0

each_unit : (xs : List Row) → AllByRecursion (λ _. Unit {0}) xs
each_unit [] = tt
each_unit (x ∷ xs) = (tt, each_unit xs)

pub handle_only : (h : HandleId) (rows : List Row) (o : Option Row) → o ≡ find (λ r. same_handle h r.handle) rows → IfSome o (λ r. r.handle ≡ h)
handle_only h rows None e = tt
handle_only h rows (Some r) e =
    let H : ℕ → HandleId = λ n. record { 0 = n } in
    sym (ap H (eqb-true h.0 r.handle.0 (found (λ _. Unit {0}) (λ x. same_handle h x.handle) rows (each_unit rows) r (sym e)).1))
