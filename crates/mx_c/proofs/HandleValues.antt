-- The machine value of a `Handle`: a struct of the pointer, and then the allocator.
use Rattle.std.proofs.Common.{◌≡◌, ℕ, List, [], ◌∷◌, refl}
use Rattle.core.proofs.alloc.Calls.{Al, handle_tells}
use Rattle.core.proofs.cell.Inside.{Good}
use Rattle.std_alloc.specs.Box.Ownership.{box_owns}
use Rattle.std.specs.contracts.alloc.Global as global
use Rattle.std.specs.contracts.impls.GlobalAllocator.TheImpl as global-impl
use Rattle.std.proofs.alloc.Global.TheLaws as global-laws
use Rattle.mx_raw_box.proofs.RawBoxes.{pair, fields_are}
use Rattle.mx_c.specs.contracts.objects.Object as object
use Rattle.mx_c.specs.contracts.handles.Handle as handle
use base.Logic.{never, fst∗}
use denote.Builtin.{RawPtr}
use denote.Memory.{lone}
use denote.Param.{layout}
use denote.RattleType.{RattleType, Valss}
use denote.RawPtr.{Ptr, block_ptr, null_ptr, in_a_block}
use denote.Steps.{nothing}
use denote.Struct.Owning.{shape}
use denote.Struct.Struct.{within}
use mir.Raw.{raw as bare}
use mir.Syntax.{impl, tnil, dnil}
use mir.Val.{Val, vptr}
use seplogic.Ra.Ura.{Ura}
use types.Kit.{Item, Goal, Seq, Step, step, ‵, ◌$◌, move, drop, fsplit, fjoin, fpick, fpack, feq_i, feq_l}
use types.Logic.{Logic, sem}

abbrev pub Content : RattleType
Content = object.the_row

abbrev pub Allocator : RattleType
Allocator = global.the_row

abbrev pub Row : RattleType
Row = handle.the_row

abbrev frees : Al
frees = record { row = Allocator; laws = global-laws.the_row_laws; g = global-impl.ghosts; d = impl [] tnil dnil; drops = impl [] tnil dnil }

module _ {M : Type 1} {𝓤 : Ura M} {𝓛 : Logic 𝓤} {K : Type 0} {Γ : List (Item 𝓤)} {G : Goal 𝓤 𝓛.H} where
  -- what is owned with a handle: its content where the pointer leads, and its allocator
  pub handle_apart : K → (h : Row.Denot) (values : List Val)
      → ((block offset : ℕ) (alloc : Val) → h.pointer ≡ block_ptr block offset → values ≡ pair (vptr block offset) alloc ∷ [] → Good (layout Allocator) alloc
      → Seq K 𝓛 (‵ (box_owns (global-impl.ghosts.dealloc_token h.alloc) Content (block_ptr block offset) h.content) ∷ ‵ (Allocator.own_val h.alloc (alloc ∷ [])) ∷ Γ) G)
      → Seq K 𝓛 (‵ (Row.own_val h values) ∷ Γ) G
  handle_apart key h values then =
      let owned = λ (p : Ptr). box_owns (global-impl.ghosts.dealloc_token h.alloc) Content p h.content in
      let unowned = fst∗ 𝓤 (never 𝓤) (sem 𝓛 (global-impl.ghosts.dealloc_token h.alloc (bare (lone Content.mir)) null_ptr)) in
      fsplit key $
      fpick key (λ fields. fsplit key $
      feq_l key (λ is_struct. fsplit key $
      feq_l key (λ is_pointer. fsplit key $
      handle_tells frees key h.alloc fields.1.0 (λ alloc is_alloc fits.
      move key (1 ∷ []) $
      drop key $
      move key (1 ∷ []) $
      in_a_block key h.pointer owned unowned (λ block offset there.
      then block offset alloc there (fields_are values fields.0 fields.1.0 h.pointer (block_ptr block offset) alloc is_struct is_pointer is_alloc there) fits)))))

  -- the opposite
  pub handle_together : K → (block offset : ℕ) (alloc : Val) (allocator : Allocator.Denot) (content : Content.Denot)
      → Step K 𝓛 (‵ (Row.own_val (record { pointer = block_ptr block offset; alloc = allocator; content = content }) (pair (vptr block offset) alloc ∷ [])) ∷ Γ) G
      (‵ (box_owns (global-impl.ghosts.dealloc_token allocator) Content (block_ptr block offset) content) ∷ ‵ (Allocator.own_val allocator (alloc ∷ [])) ∷ Γ) G
  handle_together key block offset alloc allocator content = step (λ rest.
      let one = vptr block offset ∷ [] in
      let whole = pair (vptr block offset) alloc ∷ [] in
      let fields = within (shape handle.the_type) (block_ptr block offset, (((allocator.memory.seal, tt), tt), tt)) whole in
      nothing key $
      move key (2 ∷ 0 ∷ []) $
      fjoin key $
      feq_i key (List Val) one one refl $
      fjoin key $
      feq_i key (List Val) whole whole refl $
      fjoin key $
      fpack key (Valss (RawPtr ∷ Allocator ∷ [])) fields (one, (alloc ∷ [], tt)) $
      fjoin key $
      rest)
