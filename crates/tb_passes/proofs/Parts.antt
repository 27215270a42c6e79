-- What code refers to keeps the rules of code.
use Rattle.std.proofs.Common.{◌≡◌, refl, sym, ap, subst, ℕ, zero, suc, ◌+◌, ◌<◌, ◌≤◌, ◌≢◌, inl, inr, arith, List, [], ◌∷◌, All, AllPairs, length, Option, None, Some, slice_get, slice_index, IfSome}
use Rattle.std.specs.Option.{option_map}
use Rattle.std.proofs.lemmas.List.{length-map}
use Rattle.std.proofs.lemmas.List.Elements.{All-cons, All-map}
use Rattle.std.proofs.lemmas.List.Kept.{AllPairs-cons}
use Rattle.tb_prim.specs.declared.constant.Const.{Const}
use Rattle.tb_prim.specs.declared.constant.Static.{Static}
use Rattle.tb_semantics.specs.Graph.{IsIn, IsApart}
use Rattle.tb_core.specs.Limits.{IsShort}
use Rattle.tb_core.specs.OperandOrder.{Line}
use Rattle.tb_core.specs.Rules.{Every, PartKeeps, StaticKeeps, StaticsKeep}
use Rattle.tb_ir.specs.AnfTree.{AnfTree, ProcTree}
use Rattle.tb_ir.specs.AnfRules.{lambdas_of}
use Rattle.tb_mac.specs.Layout.{addresses_from, static_size, static_tag, statics_size}
use Rattle.tb_mac.specs.Rules.{ConstOk, NameOk, OrderOk, PartsOk, StaticAtOk, StaticOk}
use Rattle.tb_mac.specs.Words.{on_some}
use Rattle.tb_codegen.specs.PlainCode.{entries, order_entry, parts_of}

none : {X : Type 0} (P : X → Type 0) → All P []
none P k d lt = absurd (omega arith)

from_every : {X : Type 0} (P Q : X → Type 0) (xs : List X) → ((x : X) → P x → Q x) → Every P xs → All Q xs
from_every P Q [] f h = none Q
from_every P Q (x ∷ xs) f h = All-cons Q x xs (f x h.0) (from_every P Q xs f h.1)

from_in : (P : ℕ → Type 0) (xs : List ℕ) → ((x : ℕ) → IsIn x xs → P x) → All P xs
from_in P [] f = none P
from_in P (x ∷ xs) f = All-cons P x xs (f x (inl refl)) (from_in P xs (λ y i. f y (inr i)))

from_apart : (xs : List ℕ) → IsApart xs → AllPairs ◌≢◌ xs
from_apart [] h = λ i j d a b. absurd (omega arith)
from_apart (x ∷ xs) h =
    AllPairs-cons ◌≢◌ x xs (from_in (λ y. x ≢ y) xs (λ y i e. h.0 (subst (λ z. IsIn z xs) (sym e) i))) (from_apart xs h.1)

order_ok : (line : Line) → IsShort line → OrderOk (order_entry line)
order_ok line h = record {
  few = h.few;
  below = from_in (λ i. i < length line.order) line.order h.below;
  apart = from_apart line.order h.apart;
}

-- an object stands no further than all are long, and a tag is small
place_small : (at k : ℕ) (ss : List Static) → slice_index (addresses_from at ss) k ≤ at + statics_size ss
place_small at k [] = by_index k
  where
    by_index : (k : ℕ) → slice_index (addresses_from at []) k ≤ at + statics_size []
    by_index zero = omega arith
    by_index (suc k) = omega arith
place_small at zero (s ∷ ss) = omega arith
place_small at (suc k) (s ∷ ss) = let h = place_small (at + static_size s) k ss in omega arith

tag_small : (s : Static) → static_tag s ≤ 7
tag_small (Static.Pair a b) = omega arith
tag_small (Static.Vector cs) = omega arith
tag_small (Static.Str bs) = omega arith
tag_small (Static.Sym bs) = omega arith

tag_found : (o : Option Static) → on_some (option_map static_tag o) 0 (λ t. t) ≤ 7
tag_found None = omega arith
tag_found (Some s) = tag_small s

module _ (ss : List Static) (few : statics_size ss ≤ 4194304) where
  const_ok : (n : ℕ) (c : Const) → PartKeeps n c → ConstOk ss n c
  const_ok n (Const.Fix v) h = h
  const_ok n (Const.Char c) h = tt
  const_ok n (Const.Bool b) h = tt
  const_ok n Const.Nil h = tt
  const_ok n Const.Unspecified h = tt
  const_ok n Const.Undefined h = tt
  const_ok n (Const.Stat k) h =
      let p = place_small 0 k ss in let t = tag_found (slice_get ss k) in record { earlier = h; fits = omega arith }

  static_ok : (n : ℕ) (s : Static) → StaticKeeps n s → StaticOk ss n s
  static_ok n (Static.Pair a b) h = (const_ok n a h.0, const_ok n b h.1)
  static_ok n (Static.Vector cs) h = (h.0, from_every (PartKeeps n) (ConstOk ss n) cs (const_ok n) h.1)
  static_ok n (Static.Str bs) h = h
  static_ok n (Static.Sym bs) h = h

  all_ok : (first n : ℕ) (ts : List Static) → StaticsKeep first ts → IfSome (slice_get ts n) (StaticOk ss (first + n))
  all_ok first n [] h = by_index n
    where
      by_index : (n : ℕ) → IfSome (slice_get {X = Static} [] n) (StaticOk ss (first + n))
      by_index zero = tt
      by_index (suc n) = tt
  all_ok first zero (t ∷ ts) h =
      let z : first ≡ first + 0 = omega arith in subst (λ k. StaticOk ss k t) z (static_ok first t h.0)
  all_ok first (suc n) (t ∷ ts) h =
      let z : suc first + n ≡ first + suc n = omega arith in
      subst (λ k. IfSome (slice_get ts n) (StaticOk ss k)) z (all_ok (suc first) n ts h.1)

  pub statics-ok : StaticsKeep 0 ss → (n : ℕ) → StaticAtOk ss n
  statics-ok h n = let z : 0 + n ≡ n = omega arith in subst (λ k. IfSome (slice_get ss n) (StaticOk ss k)) z (all_ok 0 n ss h)

entries_length : (n : ℕ) (qs : List ProcTree) → length (entries n qs) ≡ length qs
entries_length n [] = refl
entries_length n (q ∷ qs) = ap suc (entries_length (suc n) qs)

-- what the code of a program in A-normal form refers to
pub parts-ok : (q : AnfTree) → length q.globals ≤ 1000000 → length q.statics ≤ 1000000 → All NameOk q.globals →
    statics_size q.statics ≤ 4194304 → StaticsKeep 0 q.statics → length (lambdas_of q) ≤ 1000000 →
    length q.order ≤ 1000000 → Every IsShort q.order → PartsOk (parts_of q)
parts-ok q globals statics names words keep lambdas lines short =
    let e = entries_length 0 (lambdas_of q) in let m = length-map q.order order_entry in record {
      few_globals = omega arith;
      few_statics = omega arith;
      few_lambdas = omega arith;
      few_orders = omega arith;
      names = names;
      statics = statics-ok q.statics words keep;
      orders = All-map OrderOk order_entry q.order (from_every IsShort (λ line. OrderOk (order_entry line)) q.order order_ok short);
    }
