-- How an outcome is kept.
use Rattle.std.proofs.Common.{◌≡◌, ◌≢◌, Bool, true, false, refl, ap, sym, ◌∙◌, inl, inr, ◌⊎◌}
use Rattle.mx_types.specs.declared.code.Code.{Code}
use Rattle.mx_types.specs.declared.code.Code.TheVariants as code
use Rattle.mx_chain.specs.Hops.{is_ok}
use Rattle.mx_chain.specs.Outcomes.{OutcomeValue}
use Rattle.mx_text.specs.Fetched.{fetched_of}
use Rattle.mx_text.specs.declared.fetched.Fetched.TheVariants.{Ended, Failed}

-- the code of a whole response is 0
pub ok_is : (c : Code) → is_ok c ≡ true → c ≡ code.Ok
ok_is code.Ok e = refl
ok_is code.UnsupportedProtocol e = cc
ok_is code.UrlMalformat e = cc
ok_is code.CouldntResolveHost e = cc
ok_is code.CouldntConnect e = cc
ok_is code.WeirdServerReply e = cc
ok_is code.PartialFile e = cc
ok_is code.WriteError e = cc
ok_is code.OutOfMemory e = cc
ok_is code.OperationTimedout e = cc
ok_is code.TooManyRedirects e = cc
ok_is code.GotNothing e = cc
ok_is code.SendError e = cc
ok_is code.RecvError e = cc
ok_is code.BadContentEncoding e = cc
ok_is code.FilesizeExceeded e = cc
ok_is code.TooLarge e = cc

-- whether it is
pub ok_tells : (c : Code) → ((is_ok c ≡ true) × (c ≡ code.Ok)) ⊎ ((is_ok c ≡ false) × (c ≢ code.Ok))
ok_tells c = by (is_ok c) refl where
  by : (is : Bool) → is_ok c ≡ is → ((is_ok c ≡ true) × (c ≡ code.Ok)) ⊎ ((is_ok c ≡ false) × (c ≢ code.Ok))
  by true e = inl (e, ok_is c e)
  by false e = inr (e, λ same. let bad : false ≡ true = sym e ∙ ap is_ok same in cc)

pub not_ok : (c : Code) → c ≢ code.Ok → is_ok c ≡ false
not_ok c isnt = by (is_ok c) refl where
  by : (is : Bool) → is_ok c ≡ is → is_ok c ≡ false
  by true e = absurd (isnt (ok_is c e))
  by false e = e

-- what an outcome is kept as, where its code is 0, and where it is another
pub kept_whole : (o : OutcomeValue) → o.code ≡ code.Ok → Ended o ≡ fetched_of o
kept_whole o is = rw (ap is_ok is) refl

pub kept_failed : (o : OutcomeValue) → o.code ≢ code.Ok → Failed o ≡ fetched_of o
kept_failed o isnt = rw (not_ok o.code isnt) refl
