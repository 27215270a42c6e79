-- Looking up what belongs to a lambda expression by its number, where that of each is made of those behind it.
use Rattle.std.proofs.Common.{◌≡◌, refl, sym, ap, ◌∙◌, ℕ, suc, ◌+◌, ◌≤◌, arith, cond, ◌==◌, List, [], ◌∷◌, ◌++◌, append_assoc, append-nil, length}
use Rattle.std.proofs.lemmas.Bool.{ne_eqb, eq-eqb}
use Rattle.tb_core.specs.Tree.{LambdaTree}

module _ {X : Type 0} (own : (ℕ → List X) → LambdaTree → List X) (looked : List LambdaTree → ℕ → ℕ → List X) (step : (m : LambdaTree) (ms : List LambdaTree) (first l : ℕ) → looked (m ∷ ms) first l ≡ cond (first == l) (own (looked ms (suc first)) m) (looked ms (suc first) l)) where
  -- a function gives, from a number on, what a list of lambda expressions from that number on gives, with others behind
  pub record Agrees (inner : ℕ → List X) (first : ℕ) (ls : List LambdaTree) : Type 0 where
    pub others : List LambdaTree
    pub same : (l : ℕ) → first ≤ l → inner l ≡ looked (ls ++ others) first l

  skipped : (ls ms : List LambdaTree) (first n l : ℕ) → n ≡ first + length ls → n ≤ l → looked (ls ++ ms) first l ≡ looked ms n l
  skipped [] ms first n l q h = ap (λ k. looked ms k l) (omega arith)
  skipped (m ∷ ls) ms first n l q h =
      step m (ls ++ ms) first l
      ∙ ap (λ v. cond v (own (looked (ls ++ ms) (suc first)) m) (looked (ls ++ ms) (suc first) l)) (ne_eqb first l (λ e. omega arith))
      ∙ skipped ls ms (suc first) n l (omega arith) h

  pub agrees_left : (inner : ℕ → List X) (first : ℕ) (ls ms : List LambdaTree) → Agrees inner first (ls ++ ms) → Agrees inner first ls
  agrees_left inner first ls ms a =
      record { others = ms ++ a.others; same = λ l h. a.same l h ∙ ap (λ v. looked v first l) (append_assoc ls ms a.others) }

  pub agrees_right : (inner : ℕ → List X) (first n : ℕ) (ls ms : List LambdaTree) → n ≡ first + length ls → Agrees inner first (ls ++ ms) → Agrees inner n ms
  agrees_right inner first n ls ms q a =
      record { others = a.others; same = λ l h. a.same l (omega arith) ∙ ap (λ v. looked v first l) (append_assoc ls ms a.others) ∙ skipped ls (ms ++ a.others) first n l q h }

  -- the first of them, with a function that agrees with those behind it
  pub record Opens (inner : ℕ → List X) (first next : ℕ) (m : LambdaTree) (ls : List LambdaTree) : Type 0 where
    pub behind : ℕ → List X
    pub agrees : Agrees behind next ls
    pub first_is : inner first ≡ own behind m

  pub opened : (inner : ℕ → List X) (first next : ℕ) (m : LambdaTree) (ls : List LambdaTree) → next ≡ first + 1 → Agrees inner first (m ∷ ls) → Opens inner first next m ls
  opened inner first next m ls q a = record {
    behind = looked (ls ++ a.others) (suc first);
    agrees = record { others = a.others; same = λ l h. ap (λ n. looked (ls ++ a.others) n l) (omega arith) };
    first_is = a.same first (omega arith) ∙ step m (ls ++ a.others) first first ∙ ap (λ v. cond v (own (looked (ls ++ a.others) (suc first)) m) (looked (ls ++ a.others) (suc first) first)) (eq-eqb first first refl);
  }

  pub whole : (ls : List LambdaTree) → Agrees (looked ls 0) 0 ls
  whole ls = record { others = []; same = λ l h. ap (λ v. looked v 0 l) (sym (append-nil ls)) }
