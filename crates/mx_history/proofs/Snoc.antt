-- One more event at the end of a list: what each word of the history then is.
use Rattle.std.proofs.Common.{◌≡◌, ◌∙◌, sym, refl, ap, List, [], ◌∷◌, ◌++◌, append_assoc, append-nil, Bool, true, false, cond}
use Rattle.std.specs.Prelude.{not, ◌&&◌, ◌||◌, Option, Some, None}
use Rattle.std.specs.List.{filter}
use Rattle.std.specs.Option.{option_map, option_or, option_to_list}
use Rattle.std.proofs.Math.Bool.{and_assoc, and-true}
use Rattle.std.proofs.lemmas.List.Elements.{filter-append}
use Rattle.std.proofs.lemmas.List.Folds.{list_any-append}
use Rattle.mx_types.specs.declared.code.Code.{Code}
use Rattle.mx_types.specs.declared.names.Ticket.{Ticket}
use Rattle.mx_types.specs.declared.event.What.{What}
use Rattle.mx_types.specs.declared.event.What.TheVariants as what
use Rattle.mx_types.specs.declared.event.Event.{Event}
use Rattle.mx_history.specs.declared.row.Phase.TheVariants as phase
use Rattle.mx_history.specs.History.{same_ticket, occurs, standing, pauses, resumes, reads, last_is_pause, end_by, end_of, phase_by, phase_of, may_follow, is_legal_after, is_legal}
use Rattle.mx_history.specs.Rows.{phase_after, ended_phase, read_phase}

pub or_false : (a : Bool) → (a || false) ≡ a
or_false true = refl
or_false false = refl

pub occurs-snoc : (test : What → Bool) (j : List Event) (e : Event) → occurs test (j ++ e ∷ []) ≡ (occurs test j || test e.what)
occurs-snoc test j e =
    list_any-append (λ x. test x.what) j (e ∷ []) ∙ ap (λ b. occurs test j || b) (or_false (test e.what))

-- a filter of one or none
filter_one : {X : Type 0} (p q : X → Bool) (o : Option X)
    → filter (λ x. not (p x || q x)) (option_to_list o) ≡ filter (λ x. not (q x)) (filter (λ x. not (p x)) (option_to_list o))
filter_one p q None = refl
filter_one {X} p q (Some x) =
    elim (p x) as (λ b. cond (not (b || q x)) (x ∷ []) [] ≡ filter (λ y. not (q y)) (cond (not b) (x ∷ []) [])) [ true ↦ refl | false ↦ refl ]

filter_all : {X : Type 0} (o : Option X) → filter (λ x. true) (option_to_list o) ≡ option_to_list o
filter_all None = refl
filter_all (Some x) = refl

filter_same : {X : Type 0} (p q : X → Bool) → ((x : X) → p x ≡ q x) → (xs : List X) → filter p xs ≡ filter q xs
filter_same p q h [] = refl
filter_same p q h (x ∷ xs) = rw (h x, filter_same p q h xs)

pub standing-snoc : {X : Type 0} (gives : What → Option X) (takes : X → What → Bool) (j : List Event) (e : Event)
    → standing gives takes (j ++ e ∷ []) ≡ filter (λ x. not (takes x e.what)) (standing gives takes j) ++ option_to_list (gives e.what)
standing-snoc gives takes [] e = append-nil _ ∙ filter_all (gives e.what)
standing-snoc {X} gives takes (x ∷ j) e =
    let o = option_to_list (gives x.what) in
    let oe = option_to_list (gives e.what) in
    let left : filter (λ y. not (occurs (takes y) (j ++ e ∷ []))) o ≡ filter (λ y. not (takes y e.what)) (filter (λ y. not (occurs (takes y) j)) o) =
    filter_same _ _ (λ y. ap not (occurs-snoc (takes y) j e)) o ∙ filter_one (λ y. occurs (takes y) j) (λ y. takes y e.what) (gives x.what) in
    ap (λ z. z ++ standing gives takes (j ++ e ∷ [])) left
    ∙ ap (λ z. filter (λ y. not (takes y e.what)) (filter (λ y. not (occurs (takes y) j)) o) ++ z) (standing-snoc gives takes j e)
    ∙ sym (append_assoc _ _ oe)
    ∙ ap (λ z. z ++ oe) (sym (filter-append (λ y. not (takes y e.what)) (filter (λ y. not (occurs (takes y) j)) o) (standing gives takes j)))

held_none : (a b : Bool) → a ≡ cond (a || b) a false
held_none true b = refl
held_none false true = refl
held_none false false = refl

held_more : (o a b p h : Bool) → cond (o || (a || b)) (cond (a || b) a h) p ≡ cond (a || b) a (cond o h p)
held_more true true b p h = refl
held_more true false true p h = refl
held_more true false false p h = refl
held_more false true b p h = refl
held_more false false true p h = refl
held_more false false false p h = refl

pub last_is_pause-snoc : (t : Ticket) (j : List Event) (e : Event)
    → last_is_pause t (j ++ e ∷ []) ≡ cond (pauses t e.what || resumes t e.what) (pauses t e.what) (last_is_pause t j)
last_is_pause-snoc t [] e = held_none (pauses t e.what) (resumes t e.what)
last_is_pause-snoc t (x ∷ j) e =
    rw (occurs-snoc (λ y. pauses t y || resumes t y) j e, last_is_pause-snoc t j e)
    (held_more (occurs (λ y. pauses t y || resumes t y) j) (pauses t e.what) (resumes t e.what) (pauses t x.what) (last_is_pause t j))

pub legal_after-snoc : (f j : List Event) (e : Event) → is_legal_after f (j ++ e ∷ []) ≡ (is_legal_after f j && may_follow (f ++ j) e.what)
legal_after-snoc f [] e = and-true (may_follow f e.what) ∙ ap (λ g. may_follow g e.what) (sym (append-nil f))
legal_after-snoc f (x ∷ j) e =
    rw (legal_after-snoc (f ++ x ∷ []) j e, append_assoc f (x ∷ []) j)
    (sym (and_assoc (may_follow f x.what) (is_legal_after (f ++ x ∷ []) j) (may_follow (f ++ x ∷ j) e.what)))

pub legal-snoc : (j : List Event) (e : Event) → is_legal (j ++ e ∷ []) ≡ (is_legal j && may_follow j e.what)
legal-snoc j e = legal_after-snoc [] j e

-- the end so far, where the event may be an end (given), or a reading (read)
abbrev went : Option (Code × Bool) → Bool → Option (Code × Bool) → Option (Code × Bool)
went given read None = given
went given read (Some x) = Some (x.0, x.1 || read)

-- the end of a ticket, with one more event
abbrev pub end_after : Ticket → What → Option (Code × Bool) → Option (Code × Bool)
end_after t e o = went (end_by t e []) (reads t e) o

later_read : (b : Bool) (c : Code) (o r : Bool)
    → cond {A = Option (Code × Bool)} b (Some (c, o || r)) None ≡ option_map (λ (x : Code × Bool). (x.0, x.1 || r)) (cond {A = Option (Code × Bool)} b (Some (c, o)) None)
later_read true c o r = refl
later_read false c o r = refl

end_by-snoc : (t : Ticket) (w : What) (j : List Event) (e : Event)
    → end_by t w (j ++ e ∷ []) ≡ option_map (λ (x : Code × Bool). (x.0, x.1 || reads t e.what)) (end_by t w j)
end_by-snoc t (what.Done u code n) j e =
    ap (λ (o : Bool). cond {A = Option (Code × Bool)} (same_ticket t u) (Some (code, o)) None) (occurs-snoc (reads t) j e) ∙ later_read (same_ticket t u) code (occurs (reads t) j) (reads t e.what)
end_by-snoc t _ j e = refl

end_joined : (g : Option (Code × Bool)) (r : Bool) (a b : Option (Code × Bool))
    → option_or (option_map (λ (x : Code × Bool). (x.0, x.1 || r)) a) (went g r b) ≡ went g r (option_or a b)
end_joined g r None b = refl
end_joined g r (Some x) b = refl

or_none : (o : Option (Code × Bool)) → option_or o None ≡ o
or_none None = refl
or_none (Some x) = refl

pub end_of-snoc : (t : Ticket) (j : List Event) (e : Event) → end_of t (j ++ e ∷ []) ≡ end_after t e.what (end_of t j)
end_of-snoc t [] e = or_none (end_by t e.what [])
end_of-snoc t (x ∷ j) e =
    ap (λ o. option_or o (end_of t (j ++ e ∷ []))) (end_by-snoc t x.what j e)
    ∙ ap (λ o. option_or (option_map (λ (y : Code × Bool). (y.0, y.1 || reads t e.what)) (end_by t x.what j)) o) (end_of-snoc t j e)
    ∙ end_joined (end_by t e.what []) (reads t e.what) (end_by t x.what j) (end_of t j)

idle_moves : (o : Option (Code × Bool)) (h : Bool) → phase_by (went None false o) h ≡ phase_by o h
idle_moves None h = refl
idle_moves (Some (c, true)) h = refl
idle_moves (Some (c, false)) h = refl

done_moves : (b : Bool) (c : Code) (o : Option (Code × Bool)) (h : Bool)
    → phase_by (went (cond b (Some (c, false)) None) false o) h ≡ cond b (ended_phase (phase.Done c) (phase_by o h)) (phase_by o h)
done_moves true c None true = refl
done_moves true c None false = refl
done_moves true c (Some (d, true)) h = refl
done_moves true c (Some (d, false)) h = refl
done_moves false c o h = idle_moves o h

read_moves : (b : Bool) (o : Option (Code × Bool)) (h : Bool)
    → phase_by (went None b o) h ≡ cond b (read_phase (phase_by o h)) (phase_by o h)
read_moves true None true = refl
read_moves true None false = refl
read_moves true (Some (d, true)) h = refl
read_moves true (Some (d, false)) h = refl
read_moves false o h = idle_moves o h

pause_moves : (b : Bool) (o : Option (Code × Bool)) (h : Bool)
    → phase_by (went None false o) (cond (b || false) b h) ≡ cond b (ended_phase phase.Paused (phase_by o h)) (phase_by o h)
pause_moves true None true = refl
pause_moves true None false = refl
pause_moves true (Some (d, true)) h = refl
pause_moves true (Some (d, false)) h = refl
pause_moves false o h = idle_moves o h

resume_moves : (b : Bool) (o : Option (Code × Bool)) (h : Bool)
    → phase_by (went None false o) (cond b false h) ≡ cond b (ended_phase phase.Running (phase_by o h)) (phase_by o h)
resume_moves true None true = refl
resume_moves true None false = refl
resume_moves true (Some (d, true)) h = refl
resume_moves true (Some (d, false)) h = refl
resume_moves false o h = idle_moves o h

pub phase_moves : (t : Ticket) (e : What) (o : Option (Code × Bool)) (h : Bool)
    → phase_by (end_after t e o) (cond (pauses t e || resumes t e) (pauses t e) h) ≡ phase_after t e (phase_by o h)
phase_moves t (what.Added _ _) o h = idle_moves o h
phase_moves t (what.Removed _ _) o h = idle_moves o h
phase_moves t (what.Done u c _) o h = done_moves (same_ticket t u) c o h
phase_moves t (what.Read u) o h = read_moves (same_ticket t u) o h
phase_moves t (what.Paused u) o h = pause_moves (same_ticket t u) o h
phase_moves t (what.Resumed u) o h = resume_moves (same_ticket t u) o h
phase_moves t what.Wake o h = idle_moves o h

pub phase_of-snoc : (t : Ticket) (j : List Event) (e : Event) → phase_of t (j ++ e ∷ []) ≡ phase_after t e.what (phase_of t j)
phase_of-snoc t j e = rw (end_of-snoc t j e, last_is_pause-snoc t j e) (phase_moves t e.what (end_of t j) (last_is_pause t j))
