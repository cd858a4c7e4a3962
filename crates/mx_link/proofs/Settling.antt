-- Calls that are made again.
use Rattle.std.proofs.Common.{◌≡◌, ℕ, ◌-◌, ◌<◌, List, [], ◌∷◌, ◌++◌, length, replicate, Result, Err, refl, sym, ap, ◌∙◌, arith}
use Rattle.std.proofs.lemmas.List.{append_assoc}
use Rattle.std.specs.Prelude.{suc}
use Rattle.std.specs.declared.io.ErrorKind.{ErrorKind}
use Rattle.std.specs.declared.io.ErrorKind.TheVariants as kind
use Rattle.mx_link.specs.Streams.{IsSettled, read_call}
use Rattle.mx_link.specs.declared.streams.Called.{Called}
use Rattle.mx_link.specs.declared.streams.Called.TheVariants as calls

-- a call that was interrupted, and then one that was made again
pub settled_once_more : (called : Result ℕ ErrorKind → Called) (most : ℕ) (before between after : List Called) (first count : Result ℕ ErrorKind)
    → between ≡ before ++ called first ∷ [] → first ≡ Err kind.Interrupted → 0 < most → IsSettled called (most - 1) between after count → IsSettled called most before after count
settled_once_more called most before between after first count told interrupted some rest = record {
  again = suc rest.again;
  told = rest.told ∙ ap (λ l. l ++ (replicate rest.again (called (Err kind.Interrupted)) ++ called count ∷ [])) (told ∙ ap (λ f. before ++ called f ∷ []) interrupted)
      ∙ append_assoc before (called (Err kind.Interrupted) ∷ []) (replicate rest.again (called (Err kind.Interrupted)) ++ called count ∷ []);
  within = omega (arith, rest.within, some);
  settled = λ e. omega (arith, rest.settled e, some);
}

-- of an interrupted read only how much there was room for counts
pub read_once_more : (most : ℕ) (before between after : List Called) (left last : List ℕ) (first count : Result ℕ ErrorKind)
    → between ≡ before ++ read_call first left ∷ [] → first ≡ Err kind.Interrupted → length last ≡ length left → 0 < most
    → IsSettled (λ c. read_call c last) (most - 1) between after count → IsSettled (λ c. read_call c last) most before after count
read_once_more most before between after left last first count told interrupted same some rest =
    settled_once_more (λ c. read_call c last) most before between after (Err kind.Interrupted) count
    (told ∙ ap (λ f. before ++ read_call f left ∷ []) interrupted ∙ ap (λ n. before ++ calls.Read (Err kind.Interrupted) n [] ∷ []) (sym same)) refl some rest
