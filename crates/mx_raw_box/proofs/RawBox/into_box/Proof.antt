-- A `RawBox` is taken apart, and one call makes the box of its pointer and its allocator.
use Rattle.std.proofs.Common.{◌≡◌, List, [], ◌∷◌, ◌++◌, refl, sym, ap, subst}
use Rattle.core.proofs.alloc.Calls.{Goes-blank}
use Rattle.core.proofs.alloc.Shapes.{after}
use Rattle.core.proofs.cell.Inside.{Good}
use Rattle.std_alloc.specs.contracts.boxed.Box.from_raw as making
use Rattle.std_alloc.proofs.BoxSteps.Form as form
use Rattle.std_alloc.proofs.BoxSteps.Steps.{box_out, box_in}
use Rattle.std_alloc.proofs.boxed.Box.from_raw.Met.{met}
use Rattle.core.proofs.atomic.Steps.{fm}
use Rattle.std.proofs.raw_atomic.Walks.{proved_at, leaves}
use Rattle.mx_raw_box.specs.contracts.RawBox.into_box.{ended, clauses}
use Rattle.mx_raw_box.specs.contracts.RawBox.into_box.Key.{name as #name}
use Rattle.mx_raw_box.proofs.RawBox.into_box.Statement.{statement}
use Rattle.mx_raw_box.proofs.RawBox.into_box.Code as code
use Rattle.mx_raw_box.proofs.RawBoxes.{pair, Row, fits_pair, taken_apart}
use base.Fml.{ftrue, flft}
use base.Logic.{SProp, ent, id⊢}
use contract.BorrowLft.{◌⊑◌}
use contract.Running.{tables}
use contract.Monad.{fact}
use denote.Exit.{no}
use denote.Param.Laws.{param_laws}
use denote.Param.{param, layout, bounded}
use denote.RattleType.{RattleType, owns}
use denote.RawPtr.{block_ptr}
use denote.Signature.{types_at, plain}
use denote.Steps.{nothing, only}
use denote.Triple.Call.{calls_at_last}
use denote.Triple.Clauses.{Lasts, lasts}
use denote.Triple.Spec.{triple_of}
use denote.Triple.Walked.{Stays, stay_dropped, walk_of}
use mir.MapTy.{inst_fn}
use mir.Syntax.{a_type, dcons, dnil}
use mir.Val.{Val, vptr}
use prog.Wp.{WpFn}
use types.ByLocal.{alloc_all, pass_all, free_all, look_at, get, get_in, sets, lands_last, env}
use types.Kit.{‵, raw, ◌⊛◌, some, later, at_ret, ◌$◌, ◌∵◌, !, qed, by, move, keep, drop, split, split3, join, fsplit, fjoin, pick, suffices, use1, await, rewrite, feq_i}
use types.Part.{sub, whole}
use types.Run.{stop, fld, of_opd, no_more, and_then, first, blocks, exec, returns, enter}

pub into_box_spec : {M : Type 1} → statement M
into_box_spec 𝓤 𝓛 𝓜 𝓡 wired Content Alloc laws alloc_laws ghosts methods content_drop alloc_drop allocator glue glued =
    -- the types, at which the function is
    let H = 𝓛.H in
    let machine = tables 𝓤 H 𝓜 𝓡 𝓡.env in
    let inner : RattleType = param 0 Content in
    let outer : RattleType = param 1 Alloc in
    let outer_laws = param_laws 1 Alloc alloc_laws in
    let types = bounded (a_type ∷ a_type ∷ []) (Content, (Alloc, tt)) (dcons methods (dcons content_drop (dcons alloc_drop dnil))) in
    let function = inst_fn types code.function in
    let exits = ended Content Alloc ghosts methods content_drop alloc_drop in
    let claims = clauses Content Alloc ghosts methods content_drop alloc_drop 𝓛 𝓜.mem 𝓡.returns in
    let boxed : form.Bx = record { row = Content; laws = laws; al = record { row = Alloc; laws = alloc_laws; g = ghosts; d = methods; drops = alloc_drop } } in
    let B : RattleType = form.B boxed in
    let Raw : RattleType = Row inner outer outer_laws ghosts in
    let stays : Stays exits.signature.params exits.kept = (stay_dropped (plain (λ _. Raw)) no, tt) in
    -- the call
    let call = triple_of 𝓛 (making.signature Content Alloc ghosts methods alloc_drop) (making.spec Content Alloc ghosts methods alloc_drop 𝓛 𝓜.mem 𝓡.returns) in
    let is_met = met 𝓤 𝓛 𝓜 𝓡 (code.calls-std_alloc::boxed::Box::from_raw 𝓡.env wired) Content Alloc laws alloc_laws ghosts methods alloc_drop allocator glued in
    proved_at 𝓛 exits stays claims 𝓜 𝓡 (Goes-blank 𝓛 2 (plain (λ _. Raw)) no (λ κs x f. tt), tt) (#name types) function (code.unfolded 𝓤 H 𝓜 𝓡 wired (Content, (Alloc, tt)) methods content_drop alloc_drop) (λ z are.
    let lives = z.0.0 in
    let shares = z.0.1 in
    let given = z.0.3.0 in
    let held = given.alloc in
    let last : Val → SProp 𝓤 = (walk_of 𝓛 exits stays claims).post z in
    let run : List Val → SProp 𝓤 = λ values. WpFn 𝓤 H machine.C machine.Λ function values last in
    let lifetimes = ‵ (flft lives.0 shares.0) ⊛ ‵ (flft lives.1.0 shares.1.0) ⊛ ‵ ftrue in
    let asked = raw ((claims lives z.0.3).requires z.1) in
    let live = raw (fact 𝓤 (lives.0 ⊑ Content.lives)) ⊛ raw (fact 𝓤 (lives.1.0 ⊑ Alloc.lives)) ⊛ ‵ ftrue in
    qed 𝓛 ((lifetimes ⊛ ‵ (owns (types_at exits.signature.params lives) z.0.3 z.0.4)) ∷ asked ∷ []) ∵
    split ! $
    move ! (1 ∷ []) $
    fsplit ! $
    -- the pointer and the allocator, and what the call asks for
    taken_apart inner outer outer_laws ghosts ! given z.0.4.0 (λ block offset alloc there values fits.
    let word : Val = pair (vptr block offset) alloc in
    let pointers : List Val = vptr block offset ∷ [] in
    let typed = fits_pair inner outer outer_laws ghosts block offset alloc fits in
    let argument : call.Ghost = ((lives, shares, tt, (held, (block_ptr block offset, tt)), (alloc ∷ [], (pointers, tt))), given.content) in
    move ! (4 ∷ []) $
    use1 𝓛 live (id⊢ 𝓤 _) $
    split3 ! $
    move ! (2 ∷ []) $
    drop ! $
    move ! (1 ∷ 2 ∷ []) $
    join ! $
    move ! (1 ∷ 0 ∷ []) $
    join ! $
    move ! (2 ∷ []) $
    feq_i ! (List Val) pointers pointers refl $
    fjoin ! $
    move ! (2 ∷ 0 ∷ []) $
    fjoin ! $
    move ! (2 ∷ 0 ∷ []) $
    join ! $
    join ! $
    use1 𝓛 (raw (call.pre argument)) (id⊢ 𝓤 _) $
    suffices ! (run (word ∷ [])) (subst (λ (all : List Val). ent 𝓤 (run (word ∷ [])) (run all)) (sym (λ i. values i ++ [])) (id⊢ 𝓤 (run (word ∷ [])))) $
    enter ! machine.C machine.Λ function (word ∷ []) last $
    alloc_all ! (λ locals.
    pass_all ! refl (typed, tt) $
    let places = env function.locals locals in
    sets ! (of_opd ! (get_in ! (fld ! refl (stop !)) (sub ! 0 refl (whole !)))) refl (tt, tt) $
    sets ! (of_opd ! (get_in ! (fld ! refl (stop !)) (sub ! 1 refl (whole !)))) refl fits $
    first ! $
    blocks ! $
    sets ! (of_opd ! (get ! refl)) refl fits $
    calls_at_last ! (fm 𝓛 𝓜 𝓡) call is_met argument (and_then ! (get ! refl) (and_then ! (get ! refl) (no_more !))) (λ answer.
    -- what it answers: the box, whose machine value is one word that is typed
    use1 𝓛 (later (some (λ (r : B.Denot). (lifetimes ⊛ ‵ (B.own_val r (answer ∷ [])))
    ⊛ some (λ (ls : Lasts (making.ended Content Alloc ghosts methods alloc_drop) lives argument.0.3). ‵ (lasts (making.ended Content Alloc ghosts methods alloc_drop) lives argument.0.3 ls) ⊛ (raw (fact 𝓤 (r.value ≡ given.content)) ⊛ raw (fact 𝓤 (r.alloc ≡ held))))))) (id⊢ 𝓤 (call.post argument answer)) $
    await ! tt $
    pick ! (λ made.
    split ! $
    move ! (1 ∷ []) $
    pick ! (λ _.
    split3 ! $
    drop ! $
    move ! (2 ∷ []) $
    split ! $
    move ! (1 ∷ []) $
    box_out boxed ! made (answer ∷ []) (λ block' offset' alloc' place all fits'.
    box_in boxed ! made block' offset' made.value place refl $
    rewrite ! 0 (λ (xs : List Val). ‵ (B.own_val made xs)) (sym all) refl $
    let good : Good (layout B) answer = subst (Good (layout B)) (sym (ap only all)) (fits_pair inner outer outer_laws ghosts block' offset' alloc' fits') in
    lands_last ! refl good $
    exec ! machine.C machine.Λ places (after 3 function.body) (at_ret places last) $
    sets ! (of_opd ! (get ! refl)) refl good $
    nothing ! $
    nothing ! $
    fjoin ! $
    returns ! (look_at ! 0 refl) $
    free_all ! refl $
    keep ! (2 ∷ 0 ∷ 1 ∷ 3 ∷ []) $
    by ! (leaves 𝓛 exits stays claims z answer made ((tt, (tt, tt)), tt) (tt, tt)))))))))
