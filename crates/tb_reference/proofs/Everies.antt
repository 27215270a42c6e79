-- Facts about each element of a list.
use Rattle.std.proofs.Common.{subst, ℕ, zero, suc, inl, inr, Bool, true, false, cond, ◌==◌, List, [], ◌∷◌, ◌++◌, take, drop, replicate, Option, Some, None, slice_get, slice_set}
use Rattle.tb_semantics.specs.Graph.{IsIn}
use Rattle.tb_core.specs.Reference.{value_for, prepend, arranged}
use Rattle.tb_core.specs.Rules.{Every}
use Rattle.tb_core.specs.Store.{Value}

pub every-in : {X : Type 0} (P : X → Type 0) (xs : List X) (x : X) → Every P xs → IsIn x xs → P x
every-in P [] x h i = absurd i
every-in P (y ∷ xs) x h (inl e) = subst P e h.0
every-in P (y ∷ xs) x h (inr i) = every-in P xs x h.1 i

pub every-more : {X : Type 0} (P Q : X → Type 0) → ((x : X) → P x → Q x) → (xs : List X) → Every P xs → Every Q xs
every-more P Q f [] h = tt
every-more P Q f (x ∷ xs) h = (f x h.0, every-more P Q f xs h.1)

pub every-append : {X : Type 0} (P : X → Type 0) (xs ys : List X) → Every P xs → Every P ys → Every P (xs ++ ys)
every-append P [] ys h k = k
every-append P (x ∷ xs) ys h k = (h.0, every-append P xs ys h.1 k)

pub every-set : {X : Type 0} (P : X → Type 0) (xs : List X) (n : ℕ) (x : X) → Every P xs → P x → Every P (slice_set xs n x)
every-set P [] n x h k = tt
every-set P (y ∷ xs) zero x h k = (k, h.1)
every-set P (y ∷ xs) (suc n) x h k = (h.0, every-set P xs n x h.1 k)

-- what there is, if there is something
abbrev pub IfThere : {X : Type 0} → (X → Type 0) → Option X → Type 0
IfThere P None = Unit {0}
IfThere P (Some x) = P x

pub every-at : {X : Type 0} (P : X → Type 0) (xs : List X) (n : ℕ) → Every P xs → IfThere P (slice_get xs n)
every-at P [] n h = tt
every-at P (x ∷ xs) zero h = h.0
every-at P (x ∷ xs) (suc n) h = every-at P xs n h.1

pub every-take : {X : Type 0} (P : X → Type 0) (k : ℕ) (xs : List X) → Every P xs → Every P (take k xs)
every-take P zero xs h = tt
every-take P (suc k) [] h = tt
every-take P (suc k) (x ∷ xs) h = (h.0, every-take P k xs h.1)

pub every-drop : {X : Type 0} (P : X → Type 0) (k : ℕ) (xs : List X) → Every P xs → Every P (drop k xs)
every-drop P zero xs h = h
every-drop P (suc k) [] h = tt
every-drop P (suc k) (x ∷ xs) h = every-drop P k xs h.1

pub every-copies : {X : Type 0} (P : X → Type 0) (n : ℕ) (x : X) → P x → Every P (replicate n x)
every-copies P zero x h = tt
every-copies P (suc n) x h = (h, every-copies P n x h)

-- values in the order of a line, put in that of their numbers
module _ (P : Value → Type 0) where
  chosen : (b : Bool) (v : Value) (o : Option Value) → P v → IfThere P o → IfThere P (cond b (Some v) o)
  chosen true v o h k = h
  chosen false v o h k = k

  for_number : (i : ℕ) (line : List ℕ) (vs : List Value) → Every P vs → IfThere P (value_for i line vs)
  for_number i [] vs h = tt
  for_number i (n ∷ line) [] h = tt
  for_number i (n ∷ line) (v ∷ vs) h = chosen (n == i) v (value_for i line vs) h.0 (for_number i line vs h.1)

  put_first : (o : Option Value) (vs : List Value) → IfThere P o → Every P vs → Every P (prepend o vs)
  put_first None vs h k = k
  put_first (Some v) vs h k = (h, k)

  pub every-arranged : (i k : ℕ) (line : List ℕ) (vs : List Value) → Every P vs → Every P (arranged i k line vs)
  every-arranged i zero line vs h = tt
  every-arranged i (suc k) line vs h = put_first (value_for i line vs) _ (for_number i line vs h) (every-arranged (suc i) k line vs h)
