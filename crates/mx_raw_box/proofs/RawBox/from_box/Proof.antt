-- A box is taken apart by one call, and its pointer and its allocator are put together again as a `RawBox`.
use Rattle.std.proofs.Common.{◌≡◌, List, [], ◌∷◌, ◌++◌, refl, sym, ap, ◌∙◌, subst}
use Rattle.core.proofs.alloc.Calls.{Goes-blank, handle_tells}
use Rattle.std_alloc.specs.Box.Ownership.{box_owns}
use Rattle.std_alloc.specs.contracts.boxed.Box.into_raw_with_allocator as taking
use Rattle.std_alloc.proofs.BoxSteps.Form as form
use Rattle.std_alloc.proofs.BoxSteps.Steps.{box_out, box_in}
use Rattle.std_alloc.proofs.boxed.Box.into_raw_with_allocator.Met.{met}
use Rattle.core.proofs.atomic.Steps.{fm}
use Rattle.std.proofs.raw_atomic.Walks.{proved_at, leaves}
use Rattle.mx_raw_box.specs.contracts.RawBox.from_box.{ended, clauses}
use Rattle.mx_raw_box.specs.contracts.RawBox.from_box.Key.{name as #name}
use Rattle.mx_raw_box.proofs.RawBox.from_box.Statement.{statement}
use Rattle.mx_raw_box.proofs.RawBox.from_box.Code as code
use Rattle.mx_raw_box.proofs.RawBoxes.{pair, fits_pair, put_together}
use base.Fml.{ftrue, fsep, flft}
use base.Logic.{SProp, ent, emp, never, id⊢, fst∗}
use contract.Monad.{fact, fact_i}
use contract.Running.{tables}
use denote.Builtin.{RawPtr}
use denote.Exit.{no}
use denote.Param.Laws.{param_laws}
use denote.Param.{param, layout, bounded}
use denote.RattleType.{RattleType, owns}
use denote.RawPtr.{Ptr, block_ptr, null_ptr, ptr_val, in_a_block}
use denote.Signature.{types_at, plain}
use denote.Steps.{nothing, only, heard}
use denote.Struct.Tuple.{Tuple}
use denote.Triple.Call.{calls_at}
use denote.Triple.Spec.{triple_of}
use denote.Triple.Walked.{Stays, stay_dropped, walk_of}
use mir.MapTy.{inst_fn}
use mir.Raw.{raw as bare}
use mir.Syntax.{a_type, dcons, dnil}
use mir.Val.{Val, vptr, vstruct, of_list}
use prog.Wp.{WpFn}
use types.ByLocal.{alloc_all, pass_all, free_all, look_at, get, get_in, sets, lands_as}
use types.Kit.{‵, raw, ◌⊛◌, some, later, ◌$◌, ◌∵◌, !, qed, by, move, keep, drop, split, split3, join, fsplit, fjoin, fpick, pick, suffices, use0, use1, await, rewrite, feq_l}
use types.Logic.{sem}
use types.Part.{agg, sub, whole}
use types.Run.{stop, fld, of_opd, no_more, and_then, returns, enter}

pub from_box_spec : {M : Type 1} → statement M
from_box_spec 𝓤 𝓛 𝓜 𝓡 wired Content Alloc laws alloc_laws ghosts methods content_drop alloc_drop allocator glue glued =
    -- the types, at which the function is
    let H = 𝓛.H in
    let machine = tables 𝓤 H 𝓜 𝓡 𝓡.env in
    let inner : RattleType = param 0 Content in
    let outer : RattleType = param 1 Alloc in
    let outer_laws = param_laws 1 Alloc alloc_laws in
    let types = bounded (a_type ∷ a_type ∷ []) (Content, (Alloc, tt)) (dcons methods (dcons content_drop (dcons alloc_drop dnil))) in
    let function = inst_fn types code.function in
    let exits = ended Content Alloc ghosts methods content_drop alloc_drop in
    let claims = clauses Content Alloc ghosts methods content_drop alloc_drop 𝓛 𝓜.mem 𝓡.returns in
    let boxed : form.Bx = record { row = Content; laws = laws; al = record { row = Alloc; laws = alloc_laws; g = ghosts; d = methods; drops = alloc_drop } } in
    let stays : Stays exits.signature.params exits.kept = (stay_dropped (plain (λ _. form.B boxed)) no, tt) in
    -- the call
    let call = triple_of 𝓛 (taking.signature Content Alloc ghosts methods alloc_drop content_drop) (taking.spec Content Alloc ghosts methods alloc_drop content_drop 𝓛 𝓜.mem 𝓡.returns) in
    let is_met = met 𝓤 𝓛 𝓜 𝓡 (code.calls-std_alloc::boxed::Box::into_raw_with_allocator 𝓡.env wired) Content Alloc laws alloc_laws ghosts methods alloc_drop content_drop allocator glued glue in
    let Parts = Tuple (RawPtr ∷ outer ∷ []) in
    proved_at 𝓛 exits stays claims 𝓜 𝓡 (Goes-blank 𝓛 2 (plain (λ _. form.B boxed)) no (λ κs x f. tt), tt) (#name types) function (code.unfolded 𝓤 H 𝓜 𝓡 wired (Content, (Alloc, tt)) methods content_drop alloc_drop) (λ z are.
    let lives = z.0.0 in
    let shares = z.0.1 in
    let given = z.0.3.0 in
    let held = given.alloc in
    let after : Val → SProp 𝓤 = (walk_of 𝓛 exits stays claims).post z in
    let run : List Val → SProp 𝓤 = λ values. WpFn 𝓤 H machine.C machine.Λ function values after in
    let lifetimes = ‵ (flft lives.0 shares.0) ⊛ ‵ (flft lives.1.0 shares.1.0) ⊛ ‵ ftrue in
    let asked = raw ((claims lives z.0.3).requires z.1) in
    qed 𝓛 ((lifetimes ⊛ ‵ (owns (types_at exits.signature.params lives) z.0.3 z.0.4)) ∷ asked ∷ []) ∵
    split ! $
    move ! (1 ∷ []) $
    fsplit ! $
    -- the machine value of the box, which goes into the call as it came
    box_out boxed ! given z.0.4.0 (λ block offset alloc there values fits.
    box_in boxed ! given block offset given.value there refl $
    let word : Val = form.word boxed alloc block offset in
    let typed = fits_pair inner outer outer_laws ghosts block offset alloc fits in
    let argument : call.Ghost = ((lives, shares, tt, (given, tt), (word ∷ [], tt)), tt) in
    fjoin ! $
    move ! (1 ∷ 0 ∷ []) $
    join ! $
    join ! $
    use1 𝓛 (raw (call.pre argument)) (id⊢ 𝓤 _) $
    suffices ! (run (word ∷ [])) (subst (λ (all : List Val). ent 𝓤 (run (word ∷ [])) (run all)) (sym (λ i. values i ++ [])) (id⊢ 𝓤 (run (word ∷ [])))) $
    enter ! machine.C machine.Λ function (word ∷ []) after $
    alloc_all ! (λ locals.
    pass_all ! refl (typed, tt) $
    sets ! (of_opd ! (get ! refl)) refl typed $
    calls_at ! (fm 𝓛 𝓜 𝓡) call is_met argument (and_then ! (get ! refl) (no_more !)) (λ answer.
    -- what it answers: a pointer, the allocator, and what the box owned
    use1 𝓛 (later (some (λ (r : Ptr × Alloc.Denot). (lifetimes ⊛ ‵ (Parts.own_val r (answer ∷ [])))
    ⊛ some (λ (_ : (Unit {0} × (Unit {0} × Unit {0})) × Unit {0}). ‵ (fsep (fsep ftrue (fsep ftrue ftrue)) ftrue) ⊛ (raw (fact 𝓤 (r.1 ≡ held)) ⊛ ‵ (box_owns (ghosts.dealloc_token held) inner r.0 given.value)))))) (id⊢ 𝓤 _) $
    await ! tt $
    pick ! (λ parts.
    split ! $
    move ! (1 ∷ []) $
    pick ! (λ _.
    split3 ! $
    drop ! $
    heard ! (parts.1 ≡ held) (λ same.
    in_a_block ! parts.0 (λ p. box_owns (ghosts.dealloc_token held) inner p given.value) (fst∗ 𝓤 (never 𝓤) (sem 𝓛 (ghosts.dealloc_token held (bare (layout Content)) null_ptr))) (λ block' offset' place.
    move ! (1 ∷ []) $
    split ! $
    move ! (1 ∷ []) $
    fpick ! (λ fields.
    fsplit ! $
    feq_l ! (λ is_struct.
    fsplit ! $
    feq_l ! (λ is_pointer.
    fsplit ! $
    rewrite ! 0 (λ (s : Alloc.Denot). ‵ (Alloc.own_val s fields.1.0)) same refl $
    handle_tells boxed.al ! held fields.1.0 (λ alloc' is_alloc fits'.
    let made = fits_pair inner outer outer_laws ghosts block' offset' alloc' fits' in
    let is_pair = ap only (is_struct ∙ (λ j. vstruct (of_list ((is_pointer ∙ ap (λ (p : Ptr). ptr_val p ∷ []) place) j ++ (is_alloc j ++ []))) ∷ [])) in
    -- the struct is made of the two
    lands_as ! is_pair refl made $
    sets ! (of_opd ! (get_in ! (fld ! refl (stop !)) (sub ! 0 refl (whole !)))) refl (tt, tt) $
    sets ! (of_opd ! (get_in ! (fld ! refl (stop !)) (sub ! 1 refl (whole !)))) refl fits' $
    sets ! (of_opd ! (get ! refl)) refl fits' $
    sets ! (agg ! (and_then ! (get ! refl) (and_then ! (get ! refl) (no_more !)))) refl made $
    move ! (3 ∷ 0 ∷ []) $
    put_together inner outer outer_laws ghosts ! block' offset' alloc' held given.value $
    use0 𝓛 (raw (fact 𝓤 (given.value ≡ given.value))) (fact_i 𝓤 (given.value ≡ given.value) (emp 𝓤) refl) $
    nothing ! $
    nothing ! $
    fjoin ! $
    returns ! (look_at ! 0 refl) $
    free_all ! refl $
    keep ! (4 ∷ 0 ∷ 2 ∷ 1 ∷ []) $
    by ! (leaves 𝓛 exits stays claims z (pair (vptr block' offset') alloc') (record { pointer = block_ptr block' offset'; alloc = held; content = given.value }) ((tt, (tt, tt)), tt) (tt, tt))))))))))))))
