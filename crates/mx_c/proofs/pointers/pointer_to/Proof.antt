-- The address of the first byte is left.
use Rattle.std.proofs.Common.{List, [], ◌∷◌, ◌++◌, refl, length}
use Rattle.std.proofs.raw_atomic.Walks.{proved_at, leaves}
use Rattle.mx_c.specs.contracts.pointers.pointer_to.{ended, clauses}
use Rattle.mx_c.specs.contracts.pointers.pointer_to.Key.{name as #name}
use Rattle.mx_c.proofs.pointers.pointer_to.Statement.{statement}
use Rattle.mx_c.proofs.pointers.pointer_to.Code as code
use base.Fml.{ftrue}
use base.Logic.{SProp}
use contract.Running.{tables}
use denote.Builtin.{u8, SliceRefOf}
use denote.Opens.{unhide}
use denote.RattleType.{owns}
use denote.RawPtr.{block_ptr}
use denote.Signature.{Slot, types_at, plain}
use denote.Slice.{slice_val}
use denote.Triple.Walked.{Stays, stay_dropped, walk_of, Goes-dropped}
use denote.Triple.Entry.{alive}
use denote.Steps.{nothing}
use mir.Val.{Val, vptr}
use prog.Wp.{WpFn}
use types.ByLocal.{alloc_all, pass_all, free_all, look_at, look_in_at, get, sets}
use types.Kit.{‵, raw, ◌⊛◌, prop, ◌$◌, ◌∵◌, !, qed, by, move, keep, drop, split, regoal, fsplit, fjoin, feq_i, feq_l, flt_l}
use types.Part.{whole, sub}
use types.Run.{addr, enter, fld, from, hop, of_opd, returns, stop}

abbrev Bytes : Slot 1
Bytes = SliceRefOf {n = 1} (0 ∷ []) tt (plain (λ _. u8)) (λ _. tt)

pub pointer_to_spec : {M : Type 1} → statement M
pointer_to_spec 𝓤 𝓛 𝓜 𝓡 wired =
    let H = 𝓛.H in
    let machine = tables 𝓤 H 𝓜 𝓡 𝓡.env in
    let claims = clauses 𝓛 𝓜.mem 𝓡.returns in
    let function = code.function in
    let stays : Stays ended.signature.params ended.kept = (stay_dropped Bytes ended.kept.0, tt) in
    proved_at 𝓛 ended stays claims 𝓜 𝓡 (Goes-dropped 𝓛 1 Bytes ended.kept.0 (λ κs x f. refl), tt) #name function (code.unfolded 𝓤 H 𝓜 𝓡 wired) (λ z are.
    let bytes = z.0.3.0 in
    let block = bytes.ref_ptr.0 in
    let offset = bytes.ref_ptr.1 in
    let after : Val → SProp 𝓤 = (walk_of 𝓛 ended stays claims).post z in
    qed 𝓛 ((raw (alive 𝓛 ended.signature z.0.0 z.0.1) ⊛ ‵ (owns (types_at ended.signature.params z.0.0) z.0.3 z.0.4)) ∷ ‵ ftrue ∷ []) ∵
    move ! (1 ∷ []) $
    drop ! $
    split ! $
    move ! (1 ∷ []) $
    fsplit ! $
    fsplit ! $
    fsplit ! $
    feq_l ! (λ is.
    fsplit ! $
    flt_l ! (λ count.
    flt_l ! (λ size.
    unhide ! $
    drop ! $
    drop ! $
    regoal ! (λ (all : List Val). prop (WpFn 𝓤 H machine.C machine.Λ function (all ++ []) after)) is refl $
    enter ! machine.C machine.Λ function (slice_val (block, offset) (length bytes.now) ∷ []) after $
    alloc_all ! (λ locals.
    pass_all ! refl ((tt, (tt, (record { fits = count }, tt))), tt) $
    sets ! (addr ! (from ! (fld ! refl (hop ! (look_in_at ! 1 (sub ! 0 refl (whole !))) (stop !))))) refl (tt, tt) $
    feq_i ! (List Val) (vptr block offset ∷ []) (vptr block offset ∷ []) refl $
    nothing ! $
    nothing ! $
    nothing ! $
    fjoin ! $
    returns ! (look_at ! 0 refl) $
    free_all ! refl $
    keep ! (3 ∷ 0 ∷ 2 ∷ 1 ∷ []) $
    by ! (leaves 𝓛 ended stays claims z (vptr block offset) (block_ptr block offset) (tt, tt) (tt, tt)))))))
