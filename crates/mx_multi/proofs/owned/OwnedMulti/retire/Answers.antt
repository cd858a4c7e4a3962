use Rattle.std.proofs.Common.{◌≡◌, ◌∙◌, ◌++◌, ◌∷◌, [], List, refl, ap, sym, subst}
use Rattle.std.specs.Prelude.{Option, IfSome}
use Rattle.std.specs.List.{All}
use Rattle.std.proofs.lemmas.List.Elements.{All-pop}
use Rattle.mx_multi.specs.Retiring.{IsRefused}
use Rattle.mx_multi.specs.Seats.{MultiView, SeatView}
use Rattle.mx_multi.proofs.owned.OwnedMulti.retire.Goals as goal

pub retire_by-requires : goal.retire_by-requires
retire_by-requires g c =
    let own : SeatView g.row.Q.Denot g.row.O.Denot → Type 0 = λ s. s.of ≡ c.args.self in
    let pop = All-pop own _ _ _ c.pop.ensures.items c.requires.own.0 in
    record {
      own = subst (λ (m : MultiView g.row.Q.Denot g.row.O.Denot). (c.in-Some.last.of ≡ m) × All (λ (s : SeatView g.row.Q.Denot g.row.O.Denot). s.of ≡ m) c.deref.result.now × All (λ (s : SeatView g.row.Q.Denot g.row.O.Denot). s.of ≡ m) c.deref-2.result.now) (sym c.shared.ensures)
          (subst (λ (o : Option (SeatView g.row.Q.Denot g.row.O.Denot)). IfSome o own) c.in-Some.is pop.1, subst (All own) (sym c.deref.ensures.value) pop.0, subst (All own) (sym c.deref-2.ensures.value) c.requires.own.1);
    }

pub returns-in-Err : goal.returns-in-Err
returns-in-Err g c =
    let rest = c.pop.new.self.items in
    let last = c.in-Some.last in
    let was : c.args.seats.items ≡ rest ++ last ∷ [] = c.in-Some.ensures.items in (
      refl,
      c.push_reserved.ensures.items ∙ ap (λ (s : SeatView g.row.Q.Denot g.row.O.Denot). rest ++ s ∷ []) c.in-Err.ensures.last ∙ sym was,
      refl,
      subst (λ (m : MultiView g.row.Q.Denot g.row.O.Denot). IsRefused g.O.Ending.code_of g.O.Ending.size_of m c.args.seats.items c.args.workers.items c.in-Err.why) c.shared.ensures
          (subst (λ (ss : List (SeatView g.row.Q.Denot g.row.O.Denot)). IsRefused g.O.Ending.code_of g.O.Ending.size_of c.shared.result.now ss c.args.workers.items c.in-Err.why) (sym was)
          (subst (λ (ss : List (SeatView g.row.Q.Denot g.row.O.Denot)). IsRefused g.O.Ending.code_of g.O.Ending.size_of c.shared.result.now (ss ++ last ∷ []) c.args.workers.items c.in-Err.why) c.deref.ensures.value
          (subst (λ (ws : List (SeatView g.row.Q.Denot g.row.O.Denot)). IsRefused g.O.Ending.code_of g.O.Ending.size_of c.shared.result.now (c.deref.result.now ++ last ∷ []) ws c.in-Err.why) c.deref-2.ensures.value c.in-Err.ensures.refused))),
    )
