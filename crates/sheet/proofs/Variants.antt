-- What a result says, by its variant.
use Rattle.std.proofs.Common.{◌≡◌, true, false, Result, Ok, Err, MatchResult, IsErrAnd}
use Rattle.std.specs.Result.{is_ok}

pub taken : {T E : Type 0} (P Q : Type 0) (r : Result T E) → true ≡ is_ok r → MatchResult r (λ _. P) (λ _. Q) → P
taken P Q (Ok x) e h = h
taken P Q (Err y) e h = cc

pub broken : {T E : Type 0} (P Q : Type 0) (r : Result T E) → false ≡ is_ok r → MatchResult r (λ _. P) (λ _. Q) → Q
broken P Q (Ok x) e h = cc
broken P Q (Err y) e h = h

-- the error that is handed on is the one that a refusal was turned into
pub turned : {T E F : Type 0} (f v : F) (r : Result T E) → MatchResult r (λ x. ◌≡◌ {A = Result T F} (Err f) (Ok x)) (λ _. IsErrAnd {T = T} (Err f) (λ d. d ≡ v)) → f ≡ v
turned f v (Ok x) h = cc
turned f v (Err e) h = h
