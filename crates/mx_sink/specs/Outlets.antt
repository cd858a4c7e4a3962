-- Where the content of a transfer goes: a sink, and the content that it has had no room for yet.
use Rattle.std.specs.Prelude.{◌≡◌, ℕ, ◌<◌, ◌-◌, ◌^◌, min, Bool, true, false, List, [], ◌++◌, length, Option, None, IfSome, ◌⊎◌}
use Rattle.mx_sink.specs.declared.error.SinkError.{SinkError}

-- The sink; the content that it has not taken yet, in order; why it failed, if it did; how many bytes of content were handed to it, as far
-- as that is counted; and how many the content may have, where there is a limit.
pub record OutletValue (S : Type 0) : Type 0 where
  pub sink : S
  pub left : List ℕ
  pub failure : Option SinkError
  pub count : ℕ
  pub most_bytes : Option ℕ

-- all content that was handed to it, in order: what the sink got, and what is left
abbrev pub handed_of : {S : Type 0} → (S → List ℕ) → OutletValue S → List ℕ
handed_of got o = got o.sink ++ o.left

-- how many bytes these are, counted up to 18,446,744,073,709,551,615
abbrev pub counted : List ℕ → ℕ
counted content = min (length content) (2 ^ 64 - 1)

-- What is known of every outlet: its count is that of all content that was handed to it, and a sink that failed has not taken all.
pub record IsOutlet {S : Type 0} (got : S → List ℕ) (o : OutletValue S) : Type 0 where
  pub count : o.count ≡ counted (handed_of got o)
  pub failed : IfSome o.failure (λ _. 0 < length o.left)

-- it takes more content now
pub record IsReady {S : Type 0} (room : S → Bool) (o : OutletValue S) : Type 0 where
  pub none_left : o.left ≡ []
  pub sound : o.failure ≡ None
  pub has_room : room o.sink ≡ true

-- all content that the sink takes now was handed on: nothing is left, or the sink failed or has no room
abbrev pub IsHandedOn : {S : Type 0} → (S → Bool) → OutletValue S → Type 0
IsHandedOn room o = o.failure ≡ None → (o.left ≡ []) ⊎ (room o.sink ≡ false)
