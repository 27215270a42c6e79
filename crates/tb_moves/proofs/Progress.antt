-- How far the moves have come: what holds while they are put in order.
use Rattle.std.proofs.Common.{◌≡◌, ◌≢◌, ℕ, zero, suc, ◌+◌, ◌*◌, ◌<◌, ◌≤◌, Bool, true, false, cond, List, [], ◌∷◌, ◌++◌, length, get_or, take, drop, inl, inr, refl, sym, ap, arith, ◌∙◌, length-append}
use Rattle.std.specs.Prelude.{All, AllPairs, remove, Option, Some, None, MatchOption, unwrap_or}
use Rattle.std.proofs.Math.Seq.{drop-cons}
use Rattle.std.proofs.lemmas.List.{take-append-drop}
use Rattle.tb_moves.specs.declared.loc.Loc.{Loc}
use Rattle.tb_moves.specs.ParallelMoves.{same_loc, IsParallel, IsTaken}
use Rattle.tb_moves.proofs.Run.{same_loc-refl, same_loc-differs, one_or_two, held, held-target, held-other, run_moves-held}
use Rattle.tb_moves.proofs.Lists.{NotIn, Distinct, targets, Distinct-pull, NotIn-pull, NotIn-put_back, NotIn-from, NotIn-at, Distinct-from}

pub IsTaken-remove : (xs ys : List (Loc × Loc)) (i : ℕ) (m : Loc × Loc) {t : Loc} → i < length xs → m ≡ get_or xs i m → m.1 ≡ t → ys ≡ remove xs i → IsTaken xs (m.0, t) ys
IsTaken-remove xs ys i m {t} p e f g = (
  take i xs,
  drop (suc i) xs,
  sym (take-append-drop i xs) ∙ ap (λ zs. take i xs ++ zs) (drop-cons xs i m p ∙ ap (λ y. y ∷ drop (suc i) xs) (sym e ∙ ap (λ s. (m.0, s)) f)),
  g,
)

-- the location whose first contents a location is to hold
abbrev pub wanted : List (Loc × Loc) → Loc → Loc
wanted [] l = l
wanted (m ∷ ms) l = cond (same_loc l m.0) m.1 (wanted ms l)

-- each pending source, which is not the scratch, holds what its target wants
abbrev pub Ready : List (Loc × Loc) → List (Loc × Loc) → Loc → List (Loc × Loc) → Type 0
Ready moves out scratch [] = Unit {0}
Ready moves out scratch (m ∷ ms) = ((held out m.1 ≡ wanted moves m.0) × (m.1 ≢ scratch)) × Ready moves out scratch ms

-- the source of the location above these
abbrev pub source_of : Loc → List Loc → Loc
source_of origin [] = origin
source_of origin (l ∷ ls) = l

-- each location of a path, the last target first, is to be moved from the next
abbrev pub Feeds : List (Loc × Loc) → List (Loc × Loc) → Loc → List Loc → Type 0
Feeds moves out origin [] = Unit {0}
Feeds moves out origin (t ∷ ts) = ((held out (source_of origin ts) ≡ wanted moves t) × (source_of origin ts ≢ t)) × Feeds moves out origin ts

-- twice the number of moves that a path may still take: one for each target, and one half of a save for each target until it is saved
abbrev pub cost : Bool → ℕ → ℕ
cost saved n = cond saved (2 * n) (3 * n)

-- the moves are under way
pub record IsUnderWay (moves : List (Loc × Loc)) (scratch origin : Loc) (path : List Loc) (pending out : List (Loc × Loc)) : Type 0 where
  pub ready : Ready moves out scratch pending
  pub feeds : Feeds moves out origin path
  pub distinct : Distinct (path ++ targets pending)
  pub scratch_free : NotIn scratch (path ++ targets pending)
  pub done : (l : Loc) → l ≢ scratch → NotIn l (path ++ targets pending) → held out l ≡ wanted moves l
  pub room : 2 * length out + 3 * length pending + cost (same_loc origin scratch) (length path) ≤ 48
  pub few : length path + length pending ≤ 16

cost-most : (b : Bool) (n : ℕ) → cost b n ≤ 3 * n
cost-most true n = omega arith
cost-most false n = omega arith

cost-more : (b : Bool) (n : ℕ) → cost b (suc n) ≤ cost b n + 3
cost-more true n = omega arith
cost-more false n = omega arith

cost-less : (b : Bool) (n : ℕ) → cost b n + 2 ≤ cost b (suc n)
cost-less true n = omega arith
cost-less false n = omega arith

Ready-middle : (moves out : List (Loc × Loc)) (scratch : Loc) (front back : List (Loc × Loc)) (m : Loc × Loc) → Ready moves out scratch (front ++ m ∷ back) →
    ((held out m.1 ≡ wanted moves m.0) × (m.1 ≢ scratch)) × Ready moves out scratch (front ++ back)
Ready-middle moves out scratch [] back m h = h
Ready-middle moves out scratch (x ∷ xs) back m h = let k = Ready-middle moves out scratch xs back m h.1 in (k.0, (h.0, k.1))

-- a path begins with a pending move
pub begun : (moves : List (Loc × Loc)) (scratch origin : Loc) (front back out : List (Loc × Loc)) (m : Loc × Loc) → m.0 ≢ m.1 →
    IsUnderWay moves scratch origin [] (front ++ m ∷ back) out → IsUnderWay moves scratch m.1 (m.0 ∷ []) (front ++ back) out
begun moves scratch origin front back out m n u =
    let r = Ready-middle moves out scratch front back m u.ready in
    let a : length (front ++ m ∷ back) ≡ length front + suc (length back) = length-append front (m ∷ back) in
    let b : length (front ++ back) ≡ length front + length back = length-append front back in
    let c : cost (same_loc m.1 scratch) 1 ≤ 3 = cost-most (same_loc m.1 scratch) 1 in
    record {
      ready = r.1;
      feeds = ((r.0.0, λ e. n (sym e)), tt);
      distinct = Distinct-pull [] front back m u.distinct;
      scratch_free = NotIn-pull scratch [] front back m u.scratch_free;
      done = λ l s h. u.done l s (NotIn-put_back l [] front back m h);
      room = omega (arith, u.room);
      few = omega (arith, u.few);
    }

-- a move of a location to itself is done
pub skipped : (moves : List (Loc × Loc)) (scratch origin : Loc) (front back out : List (Loc × Loc)) (m : Loc × Loc) → m.0 ≡ m.1 →
    IsUnderWay moves scratch origin [] (front ++ m ∷ back) out → IsUnderWay moves scratch origin [] (front ++ back) out
skipped moves scratch origin front back out m e u =
    let r = Ready-middle moves out scratch front back m u.ready in
    let a : length (front ++ m ∷ back) ≡ length front + suc (length back) = length-append front (m ∷ back) in
    let b : length (front ++ back) ≡ length front + length back = length-append front back in
    record {
      ready = r.1;
      feeds = tt;
      distinct = (Distinct-pull [] front back m u.distinct).1;
      scratch_free = (NotIn-pull scratch [] front back m u.scratch_free).1;
      done = λ l s h. elim (one_or_two l m.0) [
        | inl q ↦ ap (held out) (q ∙ e) ∙ r.0.0 ∙ ap (wanted moves) (sym q)
        | inr n ↦ u.done l s (NotIn-put_back l [] front back m (n, h))
      ];
      room = omega (arith, u.room);
      few = omega (arith, u.few);
    }

-- a path goes on with a move that reads its top
pub followed : (moves : List (Loc × Loc)) (scratch origin top : Loc) (rest : List Loc) (front back out : List (Loc × Loc)) (reader : Loc) →
    IsUnderWay moves scratch origin (top ∷ rest) (front ++ (reader, top) ∷ back) out → IsUnderWay moves scratch origin (reader ∷ top ∷ rest) (front ++ back) out
followed moves scratch origin top rest front back out reader u =
    let m : Loc × Loc = (reader, top) in
    let r = Ready-middle moves out scratch front back m u.ready in
    let a : length (front ++ m ∷ back) ≡ length front + suc (length back) = length-append front (m ∷ back) in
    let b : length (front ++ back) ≡ length front + length back = length-append front back in
    let c = cost-more (same_loc origin scratch) (length (top ∷ rest)) in
    let d = Distinct-pull (top ∷ rest) front back m u.distinct in
    record {
      ready = r.1;
      feeds = ((r.0.0, λ e. d.0.0 (sym e)), u.feeds);
      distinct = d;
      scratch_free = NotIn-pull scratch (top ∷ rest) front back m u.scratch_free;
      done = λ l s h. u.done l s (NotIn-put_back l (top ∷ rest) front back m h);
      room = omega (arith, u.room, c);
      few = omega (arith, u.few);
    }

Ready-kept : (moves out : List (Loc × Loc)) (scratch t s : Loc) (pending : List (Loc × Loc)) → All (λ m. m.1 ≢ t) pending → Ready moves out scratch pending → Ready moves (out ++ (t, s) ∷ []) scratch pending
Ready-kept moves out scratch t s [] a h = tt
Ready-kept moves out scratch t s (m ∷ ms) a h =
    ((held-other out t s m.1 (a 0 m (omega arith)) ∙ h.0.0, h.0.1), Ready-kept moves out scratch t s ms (λ k d p. a (suc k) d (omega arith)) h.1)

Ready-saved : (moves out : List (Loc × Loc)) (scratch s : Loc) (pending : List (Loc × Loc)) → Ready moves out scratch pending → Ready moves (out ++ (scratch, s) ∷ []) scratch pending
Ready-saved moves out scratch s [] h = tt
Ready-saved moves out scratch s (m ∷ ms) h = ((held-other out scratch s m.1 h.0.1 ∙ h.0.0, h.0.1), Ready-saved moves out scratch s ms h.1)

source_of-other : (origin t : Loc) (ts : List Loc) (rest : List Loc) → origin ≢ t → NotIn t (ts ++ rest) → source_of origin ts ≢ t
source_of-other origin t [] rest n h = n
source_of-other origin t (x ∷ xs) rest n h = λ e. h.0 (sym e)

Feeds-kept : (moves out : List (Loc × Loc)) (origin t s : Loc) (ts rest : List Loc) → origin ≢ t → NotIn t (ts ++ rest) → Feeds moves out origin ts → Feeds moves (out ++ (t, s) ∷ []) origin ts
Feeds-kept moves out origin t s [] rest n h f = tt
Feeds-kept moves out origin t s (x ∷ xs) rest n h f =
    ((held-other out t s (source_of origin xs) (source_of-other origin t xs rest n h.1) ∙ f.0.0, f.0.1), Feeds-kept moves out origin t s xs rest n h.1 f.1)

Feeds-saved : (moves out : List (Loc × Loc)) (scratch t : Loc) (ts rest : List Loc) → NotIn scratch (ts ++ rest) → Feeds moves out t ts → Feeds moves (out ++ (scratch, t) ∷ []) scratch ts
Feeds-saved moves out scratch t [] rest h f = tt
Feeds-saved moves out scratch t (x ∷ []) rest h f = ((held-target out scratch t ∙ f.0.0, h.0), tt)
Feeds-saved moves out scratch t (x ∷ y ∷ ys) rest h f =
    ((held-other out scratch t y (λ e. h.1.0 (sym e)) ∙ f.0.0, f.0.1), Feeds-saved moves out scratch t (y ∷ ys) rest h.1 f.1)

-- the top of a path, which is where it came from, is saved in the scratch
pub saved : (moves : List (Loc × Loc)) (scratch top : Loc) (rest : List Loc) (pending out : List (Loc × Loc)) →
    IsUnderWay moves scratch top (top ∷ rest) pending out → IsUnderWay moves scratch scratch (top ∷ rest) pending (out ++ (scratch, top) ∷ [])
saved moves scratch top [] pending out u = absurd (u.feeds.0.1 refl)
saved moves scratch top (x ∷ xs) pending out u =
    let a : length (out ++ (scratch, top) ∷ []) ≡ length out + 1 = length-append out ((scratch, top) ∷ []) in
    let s : top ≢ scratch = λ e. u.scratch_free.0 (sym e) in
    let p : 2 * length out + 3 * length pending + 3 * length (top ∷ x ∷ xs) ≤ 48 = rw (same_loc-differs top scratch s) at u.room in
    record {
      ready = Ready-saved moves out scratch top pending u.ready;
      feeds = Feeds-saved moves out scratch top (top ∷ x ∷ xs) (targets pending) u.scratch_free u.feeds;
      distinct = u.distinct;
      scratch_free = u.scratch_free;
      done = λ l n h. held-other out scratch top l n ∙ u.done l n h;
      room = rw (same_loc-refl scratch) (omega (arith, p));
      few = u.few;
    }

-- the top of a path, which no other move reads, is moved
pub moved_top : (moves : List (Loc × Loc)) (scratch origin top : Loc) (rest : List Loc) (pending out : List (Loc × Loc)) → origin ≢ top → All (λ m. m.1 ≢ top) pending →
    IsUnderWay moves scratch origin (top ∷ rest) pending out → IsUnderWay moves scratch origin rest pending (out ++ (top, source_of origin rest) ∷ [])
moved_top moves scratch origin top rest pending out n unread u =
    let s = source_of origin rest in
    let a : length (out ++ (top, s) ∷ []) ≡ length out + 1 = length-append out ((top, s) ∷ []) in
    let c = cost-less (same_loc origin scratch) (length rest) in
    record {
      ready = Ready-kept moves out scratch top s pending unread u.ready;
      feeds = Feeds-kept moves out origin top s rest (targets pending) n u.distinct.0 u.feeds.1;
      distinct = u.distinct.1;
      scratch_free = u.scratch_free.1;
      done = λ l k h. elim (one_or_two l top) [
        | inl q ↦ ap (held (out ++ (top, s) ∷ [])) q ∙ held-target out top s ∙ u.feeds.0.0 ∙ ap (wanted moves) (sym q)
        | inr d ↦ held-other out top s l d ∙ u.done l k (d, h)
      ];
      room = omega (arith, u.room, c);
      few = omega (arith, u.few);
    }

wanted-other : (l : Loc) (ms : List (Loc × Loc)) → NotIn l (targets ms) → wanted ms l ≡ l
wanted-other l [] h = refl
wanted-other l (m ∷ ms) h = rw (same_loc-differs l m.0 h.0) (wanted-other l ms h.1)

wanted-target : (ms : List (Loc × Loc)) → Distinct (targets ms) → (k : ℕ) (d : Loc × Loc) → k < length ms → wanted ms (get_or ms k d).0 ≡ (get_or ms k d).1
wanted-target [] h k d p = absurd (omega arith)
wanted-target (m ∷ ms) h zero d p = rw (same_loc-refl m.0)
wanted-target (m ∷ ms) h (suc k) d p =
    let n : (get_or ms k d).0 ≢ m.0 = λ e. NotIn-at m.0 ms h.0 k d (omega arith) (sym e) in
    rw (same_loc-differs (get_or ms k d).0 m.0 n) (wanted-target ms h.1 k d (omega arith))

Ready-from : (moves : List (Loc × Loc)) (scratch : Loc) (ms : List (Loc × Loc)) →
    ((k : ℕ) (d : Loc × Loc) → k < length ms → ((get_or ms k d).1 ≡ wanted moves (get_or ms k d).0) × ((get_or ms k d).1 ≢ scratch)) → Ready moves [] scratch ms
Ready-from moves scratch [] h = tt
Ready-from moves scratch (m ∷ ms) h = (h 0 m (omega arith), Ready-from moves scratch ms (λ k d p. h (suc k) d (omega arith)))

-- nothing is moved yet
pub started : (moves : List (Loc × Loc)) (scratch origin : Loc) → length moves ≤ 16 → AllPairs (λ m n. m.0 ≢ n.0) moves → All (λ m. (m.0 ≢ scratch) × (m.1 ≢ scratch)) moves →
    IsUnderWay moves scratch origin [] moves []
started moves scratch origin few pairs free =
    let d = Distinct-from moves pairs in
    let c = cost-most (same_loc origin scratch) 0 in
    record {
      ready = Ready-from moves scratch moves (λ k e p. (sym (wanted-target moves d k e p), (free k e p).1));
      feeds = tt;
      distinct = d;
      scratch_free = NotIn-from scratch moves (λ k e p q. (free k e p).0 (sym q));
      done = λ l s h. sym (wanted-other l moves h);
      room = omega (arith, c);
      few = omega arith;
    }

-- everything is moved
pub finished : (V : Type 0) (moves : List (Loc × Loc)) (scratch origin : Loc) (out : List (Loc × Loc)) → AllPairs (λ m n. m.0 ≢ n.0) moves → All (λ m. (m.0 ≢ scratch) × (m.1 ≢ scratch)) moves →
    IsUnderWay moves scratch origin [] [] out → IsParallel V moves scratch out
finished V moves scratch origin out pairs free u =
    record {
      moved = λ k d p content. run_moves-held out content (get_or moves k d).0 ∙ ap content (u.done (get_or moves k d).0 (free k d p).0 tt ∙ wanted-target moves (Distinct-from moves pairs) k d p);
      kept = λ l s h content. run_moves-held out content l ∙ ap content (u.done l s tt ∙ wanted-other l moves (NotIn-from l moves (λ k d p e. h k d p (sym e))));
    }

-- the same state, named otherwise
pub same_state : (moves : List (Loc × Loc)) (scratch : Loc) {o p : Loc} {path rest : List Loc} {pending left out more : List (Loc × Loc)} → o ≡ p → path ≡ rest → pending ≡ left → out ≡ more →
    IsUnderWay moves scratch p rest left more → IsUnderWay moves scratch o path pending out
same_state moves scratch e f g h u = rw (e, f, g, h) u

pub nil-from : (ms : List (Loc × Loc)) → (0 < length ms → false ≡ true) → ms ≡ []
nil-from [] h = refl
nil-from (m ∷ ms) h = let e = h (omega arith) in cc

-- the top is moved, after a save where the path reads its own top
pub moved_on : (moves : List (Loc × Loc)) (scratch origin top source : Loc) (rest : List Loc) (pending out saved_out : List (Loc × Loc)) →
    (origin ≡ top → (source ≡ scratch) × (saved_out ≡ out ++ (scratch, top) ∷ [])) → (origin ≢ top → (source ≡ origin) × (saved_out ≡ out)) → All (λ m. m.1 ≢ top) pending →
    IsUnderWay moves scratch origin (top ∷ rest) pending out → IsUnderWay moves scratch source rest pending (saved_out ++ (top, source_of source rest) ∷ [])
moved_on moves scratch origin top source rest pending out saved_out s t unread u =
    elim (one_or_two origin top) [
      | inl e ↦
          let k = s e in
          rw (k.0, k.1) (moved_top moves scratch scratch top rest pending (out ++ (scratch, top) ∷ []) u.scratch_free.0 unread
          (saved moves scratch top rest pending out (same_state moves scratch (sym e) refl refl refl u)))
      | inr n ↦ let k = t n in rw (k.0, k.1) (moved_top moves scratch origin top rest pending out n unread u)
    ]

-- what a pop leaves
pub popped_rest : (r : Option Loc) (path rest left : List Loc) (top : Loc) → path ≡ top ∷ rest → MatchOption r ((path ≡ []) × (left ≡ [])) (λ t. path ≡ t ∷ left) → left ≡ rest
popped_rest None path rest left top e h = let f = h.0 in cc
popped_rest (Some t) path rest left top e h = cc

-- the next one down, or the origin
pub unwrap_or-top : (r : Option Loc) (rest : List Loc) (origin : Loc) → MatchOption r (rest ≡ []) (λ t. (more : List Loc) × (rest ≡ t ∷ more)) → unwrap_or r origin ≡ source_of origin rest
unwrap_or-top None rest origin h = rw h
unwrap_or-top (Some t) rest origin h = rw h.1
