use Rattle.std.proofs.Common.{◌+◌, ◌≤◌, ◌≡◌, ◌-◌, length, take, sym, ap, ◌∙◌, arith}
use Rattle.std.proofs.lemmas.List.{length-take, take_all}
use Rattle.mx_body.specs.ChunkedPlace.{place_after, begun, parts_begun}
use Rattle.mx_body.specs.declared.chunked.place.ChunkedPlace.TheVariants.{Data, DataCr}
use Rattle.mx_body.proofs.ChunkedRun.{data_all, data_part, first_byte, data_begins_none, first_begins}
use Rattle.mx_body.proofs.chunked.place.ChunkedPlace.advance.Goals as goal
use Rattle.mx_body.proofs.chunked.place.ChunkedPlace.advance.Goals.{in_default-via-in-Data+else-left-gt0, in_default-via-in_default}

pub returns-then-from-there-clause-place : goal.returns-then-from-there-clause-place
returns-then-from-there-clause-place c =
    let xs = take c.in-Data.left c.args.input.now in
    let long : length xs ≡ c.in-Data.left = omega (arith, length-take c.in-Data.left c.args.input.now) in
    sym (ap (λ p. place_after c.args.limit p xs) c.in-Data.is ∙ data_all c.args.limit xs c.in-Data.left (omega arith) long)

pub returns-else-from-there-clause-place : goal.returns-else-from-there-clause-place
returns-else-from-there-clause-place c =
    let all = c.args.input.now in
    sym (ap (place_after c.args.limit c.args.self) (take_all (length all) all (omega arith))
    ∙ ap (λ p. place_after c.args.limit p all) c.in-Data.is
    ∙ data_part c.args.limit all c.in-Data.left (omega arith))

pub returns-in_default-clause-place : goal.returns-in_default-clause-place
returns-in_default-clause-place c =
    let e = first_byte c.args.limit c.args.self c.args.input.now c.requires in
    elim c.in_default.branch [
      | in_default-via-in-Data+else-left-gt0 w ↦ cc
      | in_default-via-in_default w ↦ cc
    ]

pub returns-then-from-there-clause-part : goal.returns-then-from-there-clause-part
returns-then-from-there-clause-part c = λ at.
    let xs = take c.in-Data.left c.args.input.now in
    let long : length xs ≤ c.in-Data.left = omega (arith, length-take c.in-Data.left c.args.input.now) in
    ap (λ p. parts_begun c.args.limit p at xs) c.in-Data.is ∙ data_begins_none c.args.limit xs c.in-Data.left at long
    ∙ sym (ap (λ p. begun p DataCr (at + c.in-Data.left)) c.in-Data.is)

pub returns-else-from-there-clause-part : goal.returns-else-from-there-clause-part
returns-else-from-there-clause-part c = λ at.
    let all = c.args.input.now in
    ap (parts_begun c.args.limit c.args.self at) (take_all (length all) all (omega arith))
    ∙ ap (λ p. parts_begun c.args.limit p at all) c.in-Data.is
    ∙ data_begins_none c.args.limit all c.in-Data.left at (omega arith)
    ∙ sym (ap (λ p. begun p (Data (c.in-Data.left - length all)) (at + length all)) c.in-Data.is)

pub returns-in_default-clause-part : goal.returns-in_default-clause-part
returns-in_default-clause-part c = λ at.
    let e = first_begins c.args.limit c.args.self at c.args.input.now c.requires in
    elim c.in_default.branch [
      | in_default-via-in-Data+else-left-gt0 w ↦ cc
      | in_default-via-in_default w ↦ cc
    ]
