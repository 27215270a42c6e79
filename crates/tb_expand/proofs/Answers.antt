-- Answers one after another: what is so of them, when they are reached, and that they come to an end.
use Rattle.std.proofs.Common.{◌≡◌, refl, sym, ap, ◌∙◌, ℕ, zero, suc, ◌+◌, ◌≤◌, arith}
use Rattle.tb_expand.specs.Refusals.{Refusal}
use Rattle.tb_expand.specs.Scopes.{State}
use Rattle.tb_expand.specs.Limits.{Limited, Within, Past}
use Rattle.tb_expand.specs.calls.Expand.{Answer, Made, Refused, Unfinished, on, on_limit}

-- a fact about an answer from one about the answer before it
pub on_so : {X Y : Type 0} (P : Answer X → Type 0) (Q : Answer Y → Type 0) (a : Answer X) (f : X → State → Answer Y) → P a →
    ((x : X) (st : State) → P (Made x st) → Q (f x st)) → ((r : Refusal) → P (Refused r) → Q (Refused r)) → Q Unfinished → Q (on a f)
unfolding on
on_so P Q (Made x st) f p g h u = g x st p
on_so P Q (Refused r) f p g h u = h r p
on_so P Q Unfinished f p g h u = u

pub limit_so : {Y : Type 0} (Q : Answer Y → Type 0) (l : Limited) (f : State → Answer Y) →
    ((st : State) → l ≡ Within st → Q (f st)) → ((r : Refusal) → l ≡ Past r → Q (Refused r)) → Q (on_limit l f)
unfolding on_limit
limit_so Q (Within st) f g h = g st refl
limit_so Q (Past r) f g h = h r refl

pub same_so : {X : Type 0} (P Q : Answer X → Type 0) (a : Answer X) → P a →
    ((x : X) (st : State) → P (Made x st) → Q (Made x st)) → ((r : Refusal) → P (Refused r) → Q (Refused r)) → Q Unfinished → Q a
same_so P Q (Made x st) p g h u = g x st p
same_so P Q (Refused r) p g h u = h r p
same_so P Q Unfinished p g h u = u

-- with so many levels or more, the answer is this one
pub record Reaches {X : Type 0} (run : ℕ → Answer X) (a : Answer X) : Type 0 where
  pub levels : ℕ
  pub reach : (m : ℕ) → levels ≤ m → run m ≡ a

pub reached_now : {X : Type 0} (a : Answer X) → Reaches (λ m. a) a
reached_now a = record { levels = 0; reach = λ m le. refl }

on_made : {X Y : Type 0} (a : Answer X) (f : X → State → Answer Y) (x : X) (st : State) (b : Answer Y) → a ≡ Made x st → f x st ≡ b → on a f ≡ b
unfolding on
on_made a f x st b e g = ap (λ v. on v f) e ∙ g

on_stopped : {X Y : Type 0} (a : Answer X) (f : X → State → Answer Y) (r : Refusal) → a ≡ Refused r → on a f ≡ Refused r
unfolding on
on_stopped a f r e = ap (λ v. on v f) e

limit_within : {Y : Type 0} (l : Limited) (f : State → Answer Y) (st : State) (b : Answer Y) → l ≡ Within st → f st ≡ b → on_limit l f ≡ b
unfolding on_limit
limit_within l f st b e g = ap (λ v. on_limit v f) e ∙ g

limit_past : {Y : Type 0} (l : Limited) (f : State → Answer Y) (r : Refusal) → l ≡ Past r → on_limit l f ≡ Refused r
unfolding on_limit
limit_past l f r e = ap (λ v. on_limit v f) e

pub on_reached : {X Y : Type 0} (a : ℕ → Answer X) (f : ℕ → X → State → Answer Y) (x : X) (st : State) (b : Answer Y) →
    Reaches a (Made x st) → Reaches (λ m. f m x st) b → Reaches (λ m. on (a m) (f m)) b
on_reached a f x st b p q =
    record { levels = p.levels + q.levels; reach = λ m le. on_made (a m) (f m) x st b (p.reach m (omega arith)) (q.reach m (omega arith)) }

pub on_refused : {X Y : Type 0} (a : ℕ → Answer X) (f : ℕ → X → State → Answer Y) (r : Refusal) →
    Reaches a (Refused r) → Reaches (λ m. on (a m) (f m)) (Refused r)
on_refused a f r p = record { levels = p.levels; reach = λ m le. on_stopped (a m) (f m) r (p.reach m le) }

pub limit_reached : {Y : Type 0} (l : Limited) (f : ℕ → State → Answer Y) (st : State) (b : Answer Y) →
    l ≡ Within st → Reaches (λ m. f m st) b → Reaches (λ m. on_limit l (f m)) b
limit_reached l f st b e q = record { levels = q.levels; reach = λ m le. limit_within l (f m) st b e (q.reach m le) }

pub limit_refused : {Y : Type 0} (l : Limited) (f : ℕ → State → Answer Y) (r : Refusal) →
    l ≡ Past r → Reaches (λ m. on_limit l (f m)) (Refused r)
limit_refused l f r e = record { levels = 0; reach = λ m le. limit_past l (f m) r e }

-- the same with an equal part
pub along : {A X : Type 0} (F : ℕ → A → Answer X) (x y : A) (a : Answer X) → x ≡ y → Reaches (λ m. F m y) a → Reaches (λ m. F m x) a
along F x y a e q = record { levels = q.levels; reach = λ m le. ap (F m) e ∙ q.reach m le }

-- one level more
later : {X : Type 0} (run : ℕ → Answer X) (a : Answer X) (n : ℕ) → ((m : ℕ) → n ≤ m → run (suc m) ≡ a) → (m : ℕ) → n + 1 ≤ m → run m ≡ a
later run a n f zero le = absurd (omega arith)
later run a n f (suc m) le = f m (omega arith)

pub one_level : {X : Type 0} (run : ℕ → Answer X) (a : Answer X) → Reaches (λ m. run (suc m)) a → Reaches run a
one_level run a q = record { levels = q.levels + 1; reach = later run a q.levels q.reach }

-- two answers that are both reached are one
pub one_reached : {X : Type 0} (run : ℕ → Answer X) (a b : Answer X) → Reaches run a → Reaches run b → a ≡ b
one_reached run a b p q =
    let n : ℕ = p.levels + q.levels in
    sym (p.reach n (omega arith)) ∙ q.reach n (omega arith)

-- an answer that is there
abbrev pub Finished : {X : Type 0} → Answer X → Type 0
Finished (Made x st) = Unit {0}
Finished (Refused r) = Unit {0}
Finished Unfinished = ⊥

pub on_finished : {X Y : Type 0} (a : Answer X) (f : X → State → Answer Y) → Finished a → ((x : X) (st : State) → a ≡ Made x st → Finished (f x st)) → Finished (on a f)
unfolding on
on_finished (Made x st) f p g = g x st refl
on_finished (Refused r) f p g = tt
on_finished Unfinished f p g = absurd p

pub limit_finished : {Y : Type 0} (l : Limited) (f : State → Answer Y) → ((st : State) → Finished (f st)) → Finished (on_limit l f)
unfolding on_limit
limit_finished (Within st) f g = g st
limit_finished (Past r) f g = tt
