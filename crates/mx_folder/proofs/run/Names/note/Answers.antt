use Rattle.std.proofs.Common.{◌≡◌, ◌+◌, [], ◌∷◌, ◌++◌, map, ap, sym, subst, arith}
use Rattle.std.specs.String.{string_bytes}
use Rattle.std.proofs.lemmas.List.{map-append}
use Rattle.mx_folder.specs.Names.{count_of}
use Rattle.mx_folder.specs.Counts.{Counts}
use Rattle.mx_folder.proofs.Counting.{counts_more}
use Rattle.mx_folder.proofs.run.Names.note.Goals as goal

pub invariant_of-self-2 : goal.invariant_of-self-2
invariant_of-self-2 c =
    let bs = string_bytes c.args.base in
    let given = map (λ base. string_bytes base.value) c.self.inside.given in
    let listed : map (λ base. string_bytes base.value) c.note.new.self ≡ given ++ bs ∷ [] = simp (c.note.ensures, map-append, c.of-shown.ensures) in
    let counted : c.in-Some.next ≡ count_of given bs + 1 = omega (arith, c.in-Some.ensures, c.requires, ap (λ l. count_of l bs) c.self.view_is) in
    subst (Counts c.insert.new.self) (sym listed) (counts_more c.self.inside.counts c.insert.new.self given bs c.in-Some.next c.in_ok-insert.ensures.updates counted c.self.invariant)
