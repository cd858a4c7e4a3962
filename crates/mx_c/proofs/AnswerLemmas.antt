-- The reading of a message where memory is refused, and the answer to an addition to a multi handle.
use Rattle.std.proofs.Common.{◌≡◌, ℕ, refl, inl, inr}
use Rattle.std.specs.Prelude.{◌⊎◌}
use Rattle.mx_types.specs.Code.{code_number}
use Rattle.mx_types.specs.declared.code.Code.{Code}
use Rattle.mx_request.specs.Request.{RequestValue}
use Rattle.mx_solo.specs.Seats.{OneCore}
use Rattle.mx_c.specs.Answers.{Adds, AnswersAdd, AnswersRead}
use Rattle.mx_embedded.specs.declared.multi.SocketMulti.{SocketMulti}
use Rattle.mx_c.specs.declared.objects.Object.{Object}
use Rattle.mx_c.specs.declared.objects.Object.TheVariants as object
use Rattle.mx_c.specs.declared.structs.mx_message.{mx_message}

pub without_memory : (o : Object) (m : mx_message) → AnswersRead o m m 3
without_memory (object.Multi s) m = inl (refl, refl)
without_memory (object.Outcome ended) m = (inl refl, refl)

pub added : (handle : ℕ) (IsAsked : RequestValue → Type 0) (Refuses : Code → Type 0) (m : SocketMulti) (before ticket was why n : ℕ) (after : OneCore _)
    → (((n ≡ 3) × (ticket ≡ before) × (why ≡ was)) ⊎ (((n ≡ 110) × (ticket ≡ before) × ((c : Code) × Refuses c × (why ≡ code_number c)))
    ⊎ ((request : RequestValue) × IsAsked request × Adds handle request before ticket m.solo.core after n × (why ≡ was))))
    → AnswersAdd handle IsAsked Refuses (object.Multi m) before ticket was why n
added handle IsAsked Refuses m before ticket was why n after (inl memory) = inl memory
added handle IsAsked Refuses m before ticket was why n after (inr (inl refused)) = inr (inl refused)
added handle IsAsked Refuses m before ticket was why n after (inr (inr w)) = inr (inr (w.0, w.1, (after, w.2), w.3))
