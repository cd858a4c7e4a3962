-- The machine value of a `RawBox`: a struct of the pointer, and then the allocator.
use Rattle.std.proofs.Common.{◌≡◌, ℕ, List, [], ◌∷◌, ◌++◌, refl, subst}
use Rattle.core.specs.declared.alloc.Allocator.{Ghosts}
use Rattle.core.proofs.alloc.Calls.{Al, handle_tells}
use Rattle.core.proofs.cell.Inside.{Good}
use Rattle.std_alloc.specs.Box.Ownership.{box_owns}
use Rattle.std_alloc.proofs.ResultValues.{and_tt}
use Rattle.mx_raw_box.specs.contracts.RawBox as raw_box
use base.Logic.{never, fst∗}
use denote.Builtin.{RawPtr}
use denote.Memory.{lone}
use denote.Param.Laws.{Laws}
use denote.Param.{layout}
use denote.RattleType.{RattleType, Valss}
use denote.RawPtr.{Ptr, block_ptr, null_ptr, ptr_val, in_a_block}
use denote.Steps.{nothing}
use denote.Struct.Owning.{shape}
use denote.Struct.Struct.{within}
use lib.Dec.{T}
use mathlib.Core.Bool.{true, ◌&&◌}
use mir.Raw.{raw as bare}
use mir.Syntax.{impl, tnil, dnil}
use mir.Val.{Val, vptr, vstruct, vcons, vnil, of_list, has_ty, WT}
use seplogic.Ra.Ura.{Ura}
use types.Kit.{Item, Goal, Seq, Step, step, ‵, ◌$◌, move, drop, fsplit, fjoin, fpick, fpack, feq_i, feq_l}
use types.Logic.{Logic, sem}

-- a struct of two fields
abbrev pub pair : Val → Val → Val
pair pointer alloc = vstruct (vcons pointer (vcons alloc vnil))

-- the fields of such a struct: what its values are, where each is known
pub fields_are : (values pointers allocs : List Val) (at place : Ptr) (alloc : Val) → values ≡ vstruct (of_list (pointers ++ (allocs ++ []))) ∷ [] → pointers ≡ ptr_val at ∷ [] → allocs ≡ alloc ∷ [] → at ≡ place
    → values ≡ vstruct (of_list (ptr_val place ∷ alloc ∷ [])) ∷ []
fields_are values pointers allocs at place alloc made one other there =
    let by_pointer = subst (λ (p : List Val). values ≡ vstruct (of_list (p ++ (allocs ++ []))) ∷ []) one made in
    let by_alloc = subst (λ (a : List Val). values ≡ vstruct (of_list (ptr_val at ∷ (a ++ []))) ∷ []) other by_pointer in
    subst (λ (p : Ptr). values ≡ vstruct (of_list (ptr_val p ∷ alloc ∷ [])) ∷ []) there by_alloc

module _ (Content Allocator : RattleType) (laws : Laws Allocator) (ghosts : Ghosts Allocator.Denot) where
  abbrev pub Row : RattleType
  Row = raw_box.the_row Content Allocator ghosts

  abbrev frees : Al
  frees = record { row = Allocator; laws = laws; g = ghosts; d = impl [] tnil dnil; drops = impl [] tnil dnil }

  -- a pointer, and an allocator's value that fits, are a value of the struct
  pub fits_pair : (block offset : ℕ) (alloc : Val) → Good (layout Allocator) alloc → T (has_ty (layout Allocator) alloc && true) × WT (pair (vptr block offset) alloc)
  fits_pair block offset alloc fits = (and_tt (has_ty (layout Allocator) alloc) fits.0, (tt, (fits.1, tt)))

  module _ {M : Type 1} {𝓤 : Ura M} {𝓛 : Logic 𝓤} {K : Type 0} {Γ : List (Item 𝓤)} {G : Goal 𝓤 𝓛.H} where
    -- what is owned with a `RawBox`: its content where the pointer leads, and its allocator
    pub taken_apart : K → (raw : Row.Denot) (values : List Val)
        → ((block offset : ℕ) (alloc : Val) → raw.pointer ≡ block_ptr block offset → values ≡ pair (vptr block offset) alloc ∷ [] → Good (layout Allocator) alloc
        → Seq K 𝓛 (‵ (box_owns (ghosts.dealloc_token raw.alloc) Content (block_ptr block offset) raw.content) ∷ ‵ (Allocator.own_val raw.alloc (alloc ∷ [])) ∷ Γ) G)
        → Seq K 𝓛 (‵ (Row.own_val raw values) ∷ Γ) G
    taken_apart key raw values then =
        let owned = λ (p : Ptr). box_owns (ghosts.dealloc_token raw.alloc) Content p raw.content in
        let unowned = fst∗ 𝓤 (never 𝓤) (sem 𝓛 (ghosts.dealloc_token raw.alloc (bare (lone Content.mir)) null_ptr)) in
        fsplit key $
        fpick key (λ fields. fsplit key $
        feq_l key (λ is_struct. fsplit key $
        feq_l key (λ is_pointer. fsplit key $
        handle_tells frees key raw.alloc fields.1.0 (λ alloc is_alloc fits.
        move key (1 ∷ []) $
        drop key $
        move key (1 ∷ []) $
        in_a_block key raw.pointer owned unowned (λ block offset there.
        then block offset alloc there (fields_are values fields.0 fields.1.0 raw.pointer (block_ptr block offset) alloc is_struct is_pointer is_alloc there) fits)))))

    -- the opposite
    pub put_together : K → (block offset : ℕ) (alloc : Val) (allocator : Allocator.Denot) (content : Content.Denot)
        → Step K 𝓛 (‵ (Row.own_val (record { pointer = block_ptr block offset; alloc = allocator; content = content }) (pair (vptr block offset) alloc ∷ [])) ∷ Γ) G
        (‵ (box_owns (ghosts.dealloc_token allocator) Content (block_ptr block offset) content) ∷ ‵ (Allocator.own_val allocator (alloc ∷ [])) ∷ Γ) G
    put_together key block offset alloc allocator content = step (λ rest.
        let one = vptr block offset ∷ [] in
        let whole = pair (vptr block offset) alloc ∷ [] in
        let fields = within (shape (raw_box.the_type Content Allocator ghosts)) (block_ptr block offset, (allocator, tt)) whole in
        nothing key $
        move key (2 ∷ 0 ∷ []) $
        fjoin key $
        feq_i key (List Val) one one refl $
        fjoin key $
        feq_i key (List Val) whole whole refl $
        fjoin key $
        fpack key (Valss (RawPtr ∷ Allocator ∷ [])) fields (one, (alloc ∷ [], tt)) $
        fjoin key $
        rest)
