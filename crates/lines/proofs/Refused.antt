-- What `ok_or` says where it gives an error. Assumes nothing.
use Rattle.std.proofs.Common.{◌≡◌, Some, None, Ok, Err, Option, Result, refl}
use Rattle.std.specs.Option.{ok_or}

pub refused : {T E : Type 0} (o : Option T) (e f : E) → ◌≡◌ {A = Result T E} (Err f) (ok_or o e) → (o ≡ None) × (f ≡ e)
refused None e f q = (refl, cc)
refused (Some x) e f q = (cc, cc)

pub allowed : {T E : Type 0} (o : Option T) (e : E) (x : T) → ◌≡◌ {A = Result T E} (Ok x) (ok_or o e) → o ≡ Some x
allowed None e x q = cc
allowed (Some y) e x q = cc
