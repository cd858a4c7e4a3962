-- The pointer changes its type.
use Rattle.std.proofs.Common.{◌≡◌, List, [], ◌∷◌, ◌++◌, refl}
use Rattle.core.proofs.alloc.Calls.{Goes-blank}
use Rattle.std.specs.contracts.impls.GlobalAllocator.TheImpl as global-impl
use Rattle.std.proofs.alloc.Global.TheLaws as global-laws
use Rattle.std.proofs.raw_atomic.Walks.{proved_at, leaves}
use Rattle.mx_raw_box.proofs.RawBoxes.{pair, Row, fits_pair, taken_apart}
use Rattle.mx_c.specs.contracts.handles.Handle.of_raw_box.{ended, clauses}
use Rattle.mx_c.specs.contracts.handles.Handle.of_raw_box.Key.{name as #name}
use Rattle.mx_c.proofs.HandleValues.{Content, Allocator, handle_together}
use Rattle.mx_c.proofs.handles.Handle.of_raw_box.Statement.{statement}
use Rattle.mx_c.proofs.handles.Handle.of_raw_box.Code as code
use base.Fml.{ftrue}
use base.Logic.{SProp, emp}
use contract.Running.{tables}
use contract.Monad.{fact, fact_i}
use denote.RattleType.{RattleType, owns}
use denote.RawPtr.{block_ptr}
use denote.Signature.{types_at, plain}
use denote.Triple.Walked.{Stays, stay_dropped, walk_of}
use denote.Triple.Entry.{alive}
use denote.Steps.{nothing}
use mir.Val.{Val, vptr}
use prog.Wp.{WpFn}
use types.ByLocal.{alloc_all, pass_all, free_all, look_at, get, get_in, sets, env}
use types.Kit.{‵, raw, ◌⊛◌, prop, at_ret, ◌$◌, ◌∵◌, !, qed, by, move, keep, drop, split, regoal, fsplit, fjoin, use0}
use types.Part.{agg, whole, sub}
use types.Run.{stop, fld, of_opd, no_more, and_then, returns, enter, false_lit, first, branches, skips, exec}

pub of_raw_box_spec : {M : Type 1} → statement M
of_raw_box_spec 𝓤 𝓛 𝓜 𝓡 wired =
    let H = 𝓛.H in
    let machine = tables 𝓤 H 𝓜 𝓡 𝓡.env in
    let claims = clauses 𝓛 𝓜.mem 𝓡.returns in
    let function = code.function in
    let laws = global-laws.the_row_laws in
    let ghosts = global-impl.ghosts in
    let From : RattleType = Row Content Allocator laws ghosts in
    let stays : Stays ended.signature.params ended.kept = (stay_dropped (plain (λ _. From)) ended.kept.0, tt) in
    proved_at 𝓛 ended stays claims 𝓜 𝓡 (Goes-blank 𝓛 0 (plain (λ _. From)) ended.kept.0 (λ κs x f. tt), tt) #name function (code.unfolded 𝓤 H 𝓜 𝓡 wired) (λ z are.
    let given = z.0.3.0 in
    let after : Val → SProp 𝓤 = (walk_of 𝓛 ended stays claims).post z in
    qed 𝓛 ((raw (alive 𝓛 ended.signature z.0.0 z.0.1) ⊛ ‵ (owns (types_at ended.signature.params z.0.0) z.0.3 z.0.4)) ∷ ‵ ftrue ∷ []) ∵
    move ! (1 ∷ []) $
    drop ! $
    split ! $
    move ! (1 ∷ []) $
    fsplit ! $
    move ! (1 ∷ []) $
    drop ! $
    taken_apart Content Allocator laws ghosts ! given z.0.4.0 (λ block offset alloc there values fits.
    let word : Val = pair (vptr block offset) alloc in
    let typed = fits_pair Content Allocator laws ghosts block offset alloc fits in
    regoal ! (λ (all : List Val). prop (WpFn 𝓤 H machine.C machine.Λ function all after)) (λ i. values i ++ []) refl $
    enter ! machine.C machine.Λ function (word ∷ []) after $
    alloc_all ! (λ locals.
    pass_all ! refl (typed, tt) $
    -- what never runs
    sets ! (of_opd ! (false_lit !)) refl (tt, tt) $
    first ! $
    branches ! (get ! refl) (λ held. absurd held) (λ _.
    skips ! $
    exec ! machine.C machine.Λ (env function.locals locals) code.Mir.t-3 (at_ret _ after) $
    sets ! (of_opd ! (get_in ! (fld ! refl (stop !)) (sub ! 0 refl (whole !)))) refl (tt, tt) $
    sets ! (of_opd ! (get_in ! (fld ! refl (stop !)) (sub ! 1 refl (whole !)))) refl fits $
    sets ! (of_opd ! (get ! refl)) refl (tt, tt) $
    sets ! (agg ! (and_then ! (get ! refl) (and_then ! (get ! refl) (no_more !)))) refl typed $
    handle_together ! block offset alloc given.alloc given.content $
    use0 𝓛 (raw (fact 𝓤 (given.content ≡ given.content))) (fact_i 𝓤 (given.content ≡ given.content) (emp 𝓤) refl) $
    nothing ! $
    nothing ! $
    fjoin ! $
    returns ! (look_at ! 0 refl) $
    free_all ! refl $
    keep ! (3 ∷ 0 ∷ 2 ∷ 1 ∷ []) $
    by ! (leaves 𝓛 ended stays claims z word (record { pointer = block_ptr block offset; alloc = given.alloc; content = given.content }) (tt, tt) (tt, tt))))))
