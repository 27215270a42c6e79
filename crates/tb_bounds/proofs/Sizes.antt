-- The words of a state by its shape.
use Rattle.std.proofs.Common.{◌≡◌, refl, ap, ℕ, suc, ◌+◌, ◌*◌, ◌≤◌, ◌==◌, ⊎_elim, arith, eqb-true, Bool, true, false, cond, nat_lt, List, [], ◌∷◌, length, Option, None, Some, slice_get}
use Rattle.std.proofs.Math.Nat.{mul-add, mul_comm}
use Rattle.std.proofs.lemmas.Bool.{cases_Bool}
use Rattle.tb_semantics.specs.Graph.{Graph, below, kept, reaches, sum_of, total}
use Rattle.tb_core.specs.Rules.{Every}
use Rattle.tb_mac.specs.declared.word.Word.{Word}
use Rattle.tb_mac.specs.declared.word.Word.TheVariants.{Fix, Special, Char, Header, Pointer, Code, Raw}
use Rattle.tb_mac.specs.Assembled.{Assembled}
use Rattle.tb_mac.specs.Frames.{Frame, Framed}
use Rattle.tb_mac.specs.FramedRuns.{framed_shape}
use Rattle.tb_mac.specs.Layout.{start_size, statics_size}
use Rattle.tb_mac.specs.LiveWords.{closure_count, data_size, frame_words, machine_words, made_size, object_graph, object_size}
use Rattle.tb_mac.specs.Objects.{padded_size, procedure_kind, raw_size, string_kind, symbol_kind}
use Rattle.tb_bounds.specs.Within.{IsNarrow, IsSmall, IsWithin}
use Rattle.tb_bounds.proofs.SmallWords.{every-get}

-- a sum of sums
sum_linear : (a b : ℕ) (size f g : ℕ → ℕ) (xs : List ℕ) → ((x : ℕ) → size x ≤ a * f x + b * g x) →
    sum_of size xs ≤ a * sum_of f xs + b * sum_of g xs
sum_linear a b size f g [] h = omega arith
sum_linear a b size f g (x ∷ xs) h =
    let t = sum_linear a b size f g xs h in let o = h x in
    let m = mul-add a (f x) (sum_of f xs) in let n = mul-add b (g x) (sum_of g xs) in omega arith

total_linear : (a b : ℕ) (size f g : ℕ → ℕ) (k : Graph) → ((x : ℕ) → size x ≤ a * f x + b * g x) →
    total size k ≤ a * total f k + b * total g k
unfolding total
total_linear a b size f g k h = sum_linear a b size f g (kept (reaches k) (below k.count)) h

pub frames-small : (bound : ℕ) (fs : List Frame) → Every (IsNarrow bound) fs → frame_words fs ≤ (bound + 2) * length fs
frames-small bound [] h = omega arith
frames-small bound (f ∷ fs) h =
    let t = frames-small bound fs h.1 in let few = (h.0).few in
    let m = mul-add (bound + 2) 1 (length fs) in let o = mul_comm (bound + 2) 1 in
    let s : (bound + 2) * suc (length fs) ≡ (bound + 2) * (1 + length fs) = ap (λ n. (bound + 2) * n) (let e : suc (length fs) ≡ 1 + length fs = omega arith in e) in
    omega arith

-- an object is no longer than its parts in the shape say
pub object-fits : (bound : ℕ) (o : Option Word) → ((w : Word) → o ≡ Some w → IsSmall bound w) →
    object_size o ≤ (bound + 3) * closure_count o + 2 * data_size o
object-fits bound None h = omega arith
object-fits bound (Some (Header k n)) h =
    ⊎_elim
    (λ e. let few = h (Header k n) refl (eqb-true k procedure_kind e) in
    let a : object_size (Some (Header k n)) ≡ padded_size (n + 2) = ap (λ b. cond b (padded_size (n + 2)) (others k n)) e in
    let b : closure_count (Some (Header k n)) ≡ 1 = ap (λ b. cond b 1 0) e in
    let c : (bound + 3) * closure_count (Some (Header k n)) ≡ (bound + 3) * 1 = ap (λ m. (bound + 3) * m) b in
    let d = mul_comm (bound + 3) 1 in omega arith)
    (λ e.
    let a : object_size (Some (Header k n)) ≡ others k n = ap (λ b. cond b (padded_size (n + 2)) (others k n)) e in
    let b : data_size (Some (Header k n)) ≡ n + 1 = ap (λ b. cond b 0 (n + 1)) e in
    let o = others_few k n in omega arith)
    (cases_Bool (k == procedure_kind))
  where
    others : ℕ → ℕ → ℕ
    others k n =
        cond (k == string_kind) (padded_size (raw_size n + 1)) (cond (k == symbol_kind) (padded_size (raw_size n + 1)) (padded_size (n + 1)))

    either_few : (b : Bool) (x y z : ℕ) → x ≤ z → y ≤ z → cond b x y ≤ z
    either_few true x y z h k = h
    either_few false x y z h k = k

    others_few : (k n : ℕ) → others k n ≤ 2 * (n + 1)
    others_few k n =
        either_few (k == string_kind) (padded_size (raw_size n + 1)) _ (2 * (n + 1)) (omega arith)
        (either_few (k == symbol_kind) (padded_size (raw_size n + 1)) (padded_size (n + 1)) (2 * (n + 1)) (omega arith) (omega arith))
object-fits bound (Some (Fix n)) h = omega arith
object-fits bound (Some (Special n)) h = omega arith
object-fits bound (Some (Char n)) h = omega arith
object-fits bound (Some (Pointer t n)) h = omega arith
object-fits bound (Some (Code n)) h = omega arith
object-fits bound (Some (Raw n)) h = omega arith

made_fits : (bound : ℕ) (c : Assembled) (m : Framed) → IsWithin bound m → (a : ℕ) →
    made_size c m a ≤ (bound + 3) * closure_count (slice_get m.heap a) + 2 * data_size (slice_get m.heap a)
made_fits bound c m h a =
    let o = object-fits bound (slice_get m.heap a) (λ w e. every-get (IsSmall bound) m.heap a w h.heap e) in
    no_more (nat_lt a (start_size c.parts)) _ _ o
  where
    no_more : (b : Bool) (x y : ℕ) → x ≤ y → cond b 0 x ≤ y
    no_more true x y h = omega arith
    no_more false x y h = h

pub words-by-shape : (c : Assembled) (m : Framed) (bound : ℕ) → IsWithin bound m →
    machine_words c m ≤ 18 + (bound + 2) * (framed_shape c m).frames + (bound + 3) * (framed_shape c m).closures
    + 2 * (framed_shape c m).words + statics_size c.parts.statics
words-by-shape c m bound h =
    let f = frames-small bound m.frames h.frames in
    let t = total_linear (bound + 3) 2 (made_size c m) (λ a. closure_count (slice_get m.heap a)) (λ a. data_size (slice_get m.heap a))
    (object_graph c m) (made_fits bound c m h) in
    let w = mul-add 2 (length c.parts.globals) (total (λ a. data_size (slice_get m.heap a)) (object_graph c m)) in omega arith
