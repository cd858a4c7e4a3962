-- The pointer alone is left.
use Rattle.std.proofs.Common.{List, [], ◌∷◌, ◌++◌, refl}
use Rattle.core.proofs.alloc.Calls.{Goes-blank}
use Rattle.std.specs.contracts.impls.GlobalAllocator.TheImpl as global-impl
use Rattle.std.proofs.alloc.Global.TheLaws as global-laws
use Rattle.std.proofs.raw_atomic.Walks.{proved_at, leaves}
use Rattle.mx_raw_box.proofs.RawBoxes.{pair, fits_pair}
use Rattle.mx_c.specs.contracts.handles.Handle.into_raw.{ended, clauses}
use Rattle.mx_c.specs.contracts.handles.Handle.into_raw.Key.{name as #name}
use Rattle.mx_c.proofs.HandleValues.{Content, Allocator, Row, handle_apart}
use Rattle.mx_c.proofs.handles.Handle.into_raw.Statement.{statement}
use Rattle.mx_c.proofs.handles.Handle.into_raw.Code as code
use base.Fml.{ftrue}
use base.Logic.{SProp}
use contract.Running.{tables}
use denote.RattleType.{RattleType, owns}
use denote.RawPtr.{block_ptr}
use denote.Signature.{types_at, plain}
use denote.Triple.Walked.{Stays, stay_dropped, walk_of}
use denote.Triple.Entry.{alive}
use denote.Steps.{nothing}
use mir.Val.{Val, vptr}
use prog.Wp.{WpFn}
use types.ByLocal.{alloc_all, pass_all, free_all, look_at, get, get_in, sets}
use types.Kit.{‵, raw, ◌⊛◌, prop, ◌$◌, ◌∵◌, !, qed, by, move, keep, drop, split, regoal, fsplit, fjoin, feq_i}
use types.Part.{whole, sub}
use types.Run.{stop, fld, of_opd, returns, enter}

pub into_raw_spec : {M : Type 1} → statement M
into_raw_spec 𝓤 𝓛 𝓜 𝓡 wired =
    let H = 𝓛.H in
    let machine = tables 𝓤 H 𝓜 𝓡 𝓡.env in
    let claims = clauses 𝓛 𝓜.mem 𝓡.returns in
    let function = code.function in
    let laws = global-laws.the_row_laws in
    let ghosts = global-impl.ghosts in
    let From : RattleType = Row in
    let stays : Stays ended.signature.params ended.kept = (stay_dropped (plain (λ _. From)) ended.kept.0, tt) in
    proved_at 𝓛 ended stays claims 𝓜 𝓡 (Goes-blank 𝓛 0 (plain (λ _. From)) ended.kept.0 (λ κs x f. tt), tt) #name function (code.unfolded 𝓤 H 𝓜 𝓡 wired) (λ z are.
    let given = z.0.3.0 in
    let after : Val → SProp 𝓤 = (walk_of 𝓛 ended stays claims).post z in
    qed 𝓛 ((raw (alive 𝓛 ended.signature z.0.0 z.0.1) ⊛ ‵ (owns (types_at ended.signature.params z.0.0) z.0.3 z.0.4)) ∷ ‵ ftrue ∷ []) ∵
    move ! (1 ∷ []) $
    drop ! $
    split ! $
    move ! (1 ∷ []) $
    fsplit ! $
    move ! (1 ∷ []) $
    drop ! $
    handle_apart ! given z.0.4.0 (λ block offset alloc there values fits.
    let word : Val = pair (vptr block offset) alloc in
    let typed = fits_pair Content Allocator laws ghosts block offset alloc fits in
    regoal ! (λ (all : List Val). prop (WpFn 𝓤 H machine.C machine.Λ function all after)) (λ i. values i ++ []) refl $
    enter ! machine.C machine.Λ function (word ∷ []) after $
    alloc_all ! (λ locals.
    pass_all ! refl (typed, tt) $
    sets ! (of_opd ! (get_in ! (fld ! refl (stop !)) (sub ! 0 refl (whole !)))) refl (tt, tt) $
    sets ! (of_opd ! (get ! refl)) refl (tt, tt) $
    -- what it owned is left behind
    drop ! $
    drop ! $
    feq_i ! (List Val) (vptr block offset ∷ []) (vptr block offset ∷ []) refl $
    nothing ! $
    nothing ! $
    nothing ! $
    fjoin ! $
    returns ! (look_at ! 0 refl) $
    free_all ! refl $
    keep ! (3 ∷ 0 ∷ 2 ∷ 1 ∷ []) $
    by ! (leaves 𝓛 ended stays claims z (vptr block offset) (block_ptr block offset) (tt, tt) (tt, tt)))))
