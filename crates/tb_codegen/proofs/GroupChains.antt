-- The items of procedures that are made together follow their notes: each is made and stored, and then their captured
-- words are written.
use Rattle.std.proofs.Common.{◌≡◌, true≢false, ℕ, zero, suc, ◌⊎◌, Bool, true, false, cond, ◌||◌, List, [], ◌∷◌, ◌++◌, length, length-append, Some, None, slice_get, slice_set, refl, sym, ap, ◌∙◌, subst, inl, inr, ⊎_elim, append_assoc, append-nil, lit<, arith}
use Rattle.tb_semantics.specs.Graph.{IsApart, IsIn}
use Rattle.tb_semantics.proofs.ListLemmas.{in-left, in-right, in-cases, length-last}
use Rattle.tb_core.specs.FreeVariables.{is_in, of_lambdas}
use Rattle.tb_core.proofs.Members.{in-without, in-tested, tested-in}
use Rattle.tb_ir.specs.AnfTree.{Block, CloseAll, AnfTree}
use Rattle.tb_ir.specs.AnfMachine.{captured_by}
use Rattle.tb_codegen.specs.Notes.{Spot, Reg, Slot, Symbol, Variable, Entry, Stands, Waiting, Point, AtAll, Here, Note, Noted}
use Rattle.tb_codegen.specs.Operations.{Body, variables, block_map, here}
use Rattle.tb_codegen.specs.Generate.{captured_in, settled, block_note, zeros, counts, group_map, makes, words, all_words, writes, group}
use Rattle.tb_codegen.proofs.Changes.{Under, u_own, u_deep, Same, same, IsThat, is_that, StandsAt, stands_at, From, Into, Kept, k_var, k_deep}
use Rattle.tb_codegen.proofs.Ok.{catches, Fulls, Onward, Settles, not_yet, all_done, ok_load, ok_first, ok_next, ok_stored, ok_word, free}
use Rattle.tb_codegen.proofs.Chains.{target, Chain, c_end, c_does, chain-on}
use Rattle.tb_codegen.proofs.Maps.{Home, Named, block-slots, down, down-more, entry-spot, entry-symbol, in-variables, put-into, reg-same, reg-slot, slot-same, variables-in, waiting-in, waiting-slots}
use Rattle.tb_codegen.proofs.OperationChains.{at-home, body}
use Rattle.tb_codegen.proofs.BlockChains.{AllEntered, HomeOk, HomesOk, kept-apart}

none-some : {y : ℕ} → None ≡ Some y → ⊥
none-some e = cc

some-same : {z y : ℕ} → Some z ≡ Some y → z ≡ y
some-same e = cc

empty-list : (xs : List ℕ) → length xs ≡ 0 → xs ≡ []
empty-list [] e = refl
empty-list (x ∷ xs) e = absurd (omega (arith, e))

-- lists that are taken apart
get-here : {X : Type 0} (xs ys : List X) (x : X) → slice_get (xs ++ x ∷ ys) (length xs) ≡ Some x
get-here [] ys x = refl
get-here (y ∷ xs) ys x = get-here xs ys x

set-here : (xs ys : List ℕ) (x y : ℕ) → slice_set (xs ++ x ∷ ys) (length xs) y ≡ xs ++ y ∷ ys
set-here [] ys x y = refl
set-here (z ∷ xs) ys x y = ap (λ zs. z ∷ zs) (set-here xs ys x y)

zeros-get : (ls : List ℕ) (i m : ℕ) → slice_get ls i ≡ Some m → slice_get (zeros ls) i ≡ Some 0
zeros-get [] i m e = absurd (none-some e)
zeros-get (l ∷ ls) zero m e = refl
zeros-get (l ∷ ls) (suc i) m e = zeros-get ls i m e

in-here : {X : Type 0} (xs ys : List X) (x : X) → IsIn x (xs ++ x ∷ ys)
in-here [] ys x = inl refl
in-here (y ∷ xs) ys x = inr (in-here xs ys x)

abbrev is_some_list : List ℕ → Bool
is_some_list [] = false
is_some_list (x ∷ xs) = true

module _ (p : AnfTree) (all : List Noted) (home : ℕ → ℕ) (size : ℕ) where
  abbrev c : Body
  c = body p all home size

  -- whether some of these lambdas capture a variable
  abbrev has_words : List ℕ → Bool
  has_words [] = false
  has_words (m ∷ ms) = is_some_list (captured_in p m) || has_words ms

  catches-same : (ls : List ℕ) → catches p ls ≡ of_lambdas (captured_in p) ls
  catches-same [] = refl
  catches-same (m ∷ ls) = ap (λ ys. captured_in p m ++ ys) (catches-same ls)

  counts-length : (ls : List ℕ) → length (counts c ls) ≡ length ls
  counts-length [] = refl
  counts-length (m ∷ ls) = ap suc (counts-length ls)

  counts-more : (ds : List ℕ) (m : ℕ) (ns : List ℕ) → counts c (ds ++ m ∷ []) ++ ns ≡ counts c ds ++ (length (captured_in p m) ∷ ns)
  counts-more [] m ns = refl
  counts-more (d ∷ ds) m ns = ap (λ ks. length (captured_in p d) ∷ ks) (counts-more ds m ns)

  counts-append : (ds ms : List ℕ) → counts c (ds ++ ms) ≡ counts c ds ++ counts c ms
  counts-append [] ms = refl
  counts-append (d ∷ ds) ms = ap (λ ks. length (captured_in p d) ∷ ks) (counts-append ds ms)

  -- where nothing is captured, all captured words are written
  no-words : (ms : List ℕ) → has_words ms ≡ false → zeros ms ≡ counts c ms
  no-words [] e = refl
  no-words (m ∷ ms) e = by (captured_in p m) e (no-words ms)
    where
      by : (xs : List ℕ) → (is_some_list xs || has_words ms) ≡ false → (has_words ms ≡ false → zeros ms ≡ counts c ms) →
          0 ∷ zeros ms ≡ length xs ∷ counts c ms
      by [] g so = ap (λ ns. 0 ∷ ns) (so g)
      by (x ∷ xs) g so = absurd (true≢false g)

  count-get : (ms : List ℕ) (i m : ℕ) → slice_get ms i ≡ Some m → slice_get (counts c ms) i ≡ Some (length (captured_in p m))
  count-get [] i m e = absurd (none-some e)
  count-get (l ∷ ms) zero m e = ap (λ k. Some (length (captured_in p k))) (some-same e)
  count-get (l ∷ ms) (suc i) m e = count-get ms i m e

  -- procedures of lambdas ls that are made together, bound to xs, before a block k
  module _ (xs ls : List ℕ) (k : Block) (js : Waiting) (ws : List ℕ) (long : length xs ≡ length ls) (apart : IsApart xs)
      (named : (e y : ℕ) → Named c js e y → IsIn y ws) (settled-free : free p (settled k) ≡ free p k) (empty : Settles k) where
    abbrev us : List ℕ
    us = free p (CloseAll xs ls k)

    abbrev G : List ℕ → List Entry
    G done = group_map c xs ls k js done

    g-in : (done : List ℕ) (y : ℕ) → IsIn y (done ++ us) → IsIn (Stands (Slot (home y)) (Variable 0 y)) (G done)
    g-in done y i = in-left (variables c 0 (done ++ us)) _ _ (in-variables c 0 y _ i)

    g-none : (done : List ℕ) (a : ℕ) (s : Symbol) → IsIn (Stands (Reg a) s) (G done) → ⊥
    g-none done a s i = ⊎_elim
        (λ h. let v = variables-in c 0 (done ++ us) (Reg a) s h in reg-slot a _ v.2.spot)
        (λ h. (waiting-slots c 1 js).none a s h)
        (in-cases (variables c 0 (done ++ us)) _ _ i)

    -- what lambdas capture, and what the block names, is bound here or stands at the block
    bound-or : (y : ℕ) → IsIn y (of_lambdas (captured_in p) ls ++ free p k) → IsIn y xs ⊎ IsIn y us
    bound-or y i = by (is_in xs y) refl
      where
        by : (b : Bool) → is_in xs y ≡ b → IsIn y xs ⊎ IsIn y us
        by true e = inl (in-tested xs y e)
        by false e = inr (in-without xs _ y i e)

    bound-stands : (y : ℕ) → IsIn y (of_lambdas (captured_in p) ls ++ free p k) → IsIn y (xs ++ us)
    bound-stands y i = ⊎_elim (in-left xs us y) (in-right xs us y) (bound-or y i)

    -- a new procedure goes to the slot of its variable
    store-into : (done : List ℕ) (y : ℕ) → HomeOk p all home size y (done ++ (us ++ ws)) →
        Into (Slot (home y)) (StandsAt (Reg 16) (Stands (Reg 16) (Variable 0 y) ∷ G done)) Same (G (done ++ y ∷ []))
        (Stands (Reg 16) (Variable 0 y) ∷ G done)
    store-into done y h = record {
      into = λ q s i. ⊎_elim
          (λ g. let v = variables-in c 0 ((done ++ y ∷ []) ++ us) q s g in ⊎_elim
          (λ j. ⊎_elim
          (λ d. other v.0 (in-left done _ _ d) (in-left done us _ d) q s v.2)
          (λ e. ⊎_elim
          (λ r. inl (
            v.2.spot ∙ ap (λ z. Slot (home z)) (sym r),
            stands_at (inl (ap (Stands (Reg 16)) (ap (Variable 0) r ∙ sym v.2.symbol))),
          ))
          (λ n. absurd n)
          e)
          (in-cases done (y ∷ []) v.0 j))
          (λ j. other v.0 (in-right done _ _ (in-left us ws _ j)) (in-right done us _ j) q s v.2)
          (in-cases (done ++ y ∷ []) us v.0 v.1))
          (λ g. let w = waiting-in c 1 js q s g in
          inr (
            (λ e. h.apart w.var (in-right done _ _ (in-right us ws _ (named w.deep w.var w.named))) (slot-same _ _ (e ∙ w.spot))),
            (s, inr (in-right (variables c 0 (done ++ us)) _ _ g), same s),
          ))
          (in-cases (variables c 0 ((done ++ y ∷ []) ++ us)) _ _ i);
    }
      where
        other : (z : ℕ) → IsIn z (done ++ (us ++ ws)) → IsIn z (done ++ us) → (q : Spot) (s : Symbol) → Home c 0 z q s →
            ((q ≡ Slot (home y)) × StandsAt (Reg 16) (Stands (Reg 16) (Variable 0 y) ∷ G done) s) ⊎
            ((Slot (home y) ≡ q → ⊥) × ((o : Symbol) × IsIn (Stands q o) (Stands (Reg 16) (Variable 0 y) ∷ G done) × Same o s))
        other z i j q s v =
            inr (
              (λ e. h.apart z i (slot-same _ _ (e ∙ v.spot))),
              (s, inr (at-home p all home size _ z 0 q s v.spot v.symbol (g-in done z j)), same s),
            )

    -- the note where the words of the lambdas ms are still to be written, and those of dms are
    abbrev words_note : List ℕ → List ℕ → Note
    words_note dms ms =
        cond (has_words ms) (here c (AtAll (length xs) (counts c dms ++ zeros ms) xs ls k js) (G xs)) (block_note c k js)

    block-from : From (Under None (free p (settled k))) (block_map c (settled k) js) (G xs)
    block-from = record {
      from = λ q s i. ⊎_elim
          (λ g. let v = variables-in c 0 (free p (settled k)) q s g in
          let j = bound-stands v.0 (in-right (of_lambdas (captured_in p) ls) _ _ (subst (IsIn v.0) settled-free v.1)) in (
            Variable 0 v.0,
            at-home p all home size _ v.0 0 q (Variable 0 v.0) v.2.spot refl (g-in xs v.0 j),
            subst (Under None (free p (settled k)) (Variable 0 v.0)) (sym v.2.symbol) (u_own v.0 v.1),
          ))
          (λ g. let w = waiting-in c 1 js q s g in
          (s, in-right (variables c 0 (xs ++ us)) _ _ g, same-deep w.deep w.var s w.symbol))
          (in-cases (variables c 0 (free p (settled k))) _ _ i);
    }
      where
        same-deep : (e y : ℕ) (t : Symbol) → t ≡ Variable (down 1 e) y → Under None (free p (settled k)) t t
        same-deep e y t h =
            subst (λ r. Under None (free p (settled k)) r r) (sym (h ∙ ap (λ n. Variable n y) (down-more 0 e))) (u_deep (down 0 e) y)

    -- behind the words that are written, the next are written, or the block follows
    onward-words : (dms ms : List ℕ) → dms ++ ms ≡ ls →
        Onward p (Here size) (G xs) (length xs) (counts c dms ++ zeros ms) xs ls k js (words_note dms ms)
    onward-words dms ms e = by (has_words ms) refl
      where
        by : (b : Bool) → has_words ms ≡ b →
            Onward p (Here size) (G xs) (length xs) (counts c dms ++ zeros ms) xs ls k js
            (cond b (here c (AtAll (length xs) (counts c dms ++ zeros ms) xs ls k js) (G xs)) (block_note c k js))
        by true h = not_yet
        by false h =
            let same = ap (λ ns. counts c dms ++ ns) (no-words ms h) ∙ sym (counts-append dms ms) ∙ ap (counts c) e in
            all_done empty refl (subst (λ ns. Fulls p ns ls) (sym same) (record { fulls = count-get ls })) block-from

    -- procedures are made and stored
    abbrev made_note : List ℕ → List ℕ → Note
    made_note done [] = words_note [] ls
    made_note done (m ∷ ms) = here c (AtAll (length done) (zeros ls) xs ls k js) (G done)

    stored-onward : (done ms : List ℕ) (y : ℕ) (n : ℕ) → n ≡ length (done ++ y ∷ []) → (ms ≡ [] → done ++ y ∷ [] ≡ xs) →
        Onward p (Here size) (G (done ++ y ∷ [])) n (zeros ls) xs ls k js (made_note (done ++ y ∷ []) ms)
    stored-onward done [] y n e h =
        subst (λ d. Onward p (Here size) (G d) n (zeros ls) xs ls k js (words_note [] ls)) (sym (h refl))
        (subst (λ l. Onward p (Here size) (G xs) l (zeros ls) xs ls k js (words_note [] ls)) (sym (e ∙ ap length (h refl)))
        (onward-words [] ls refl))
    stored-onward done (m ∷ ms) y n e h =
        subst (λ l. Onward p (Here size) (G (done ++ y ∷ [])) l (zeros ls) xs ls k js
        (here c (AtAll (length (done ++ y ∷ [])) (zeros ls) xs ls k js) (G (done ++ y ∷ [])))) (sym e) not_yet

    makes-chain : (rest : List Noted) (d : ℕ) (ds ys dms ms : List ℕ) → (d ∷ ds) ++ ys ≡ xs → dms ++ ms ≡ ls →
        length (d ∷ ds) ≡ length dms → AllEntered p all home size ms → HomesOk p all home size (d ∷ ds) ys (us ++ ws) →
        Chain p all rest (Some (made_note (d ∷ ds) ms)) (makes c xs ls k js (d ∷ ds) ys ms) (Some (words_note [] ls))
    makes-chain rest d ds [] dms [] e f n w h = c_end
    makes-chain rest d ds (y ∷ ys) dms [] e f n w h = c_end
    makes-chain rest d ds [] dms (m ∷ ms) e f n w h =
        absurd (let a = ap length (sym (append-nil (d ∷ ds)) ∙ e) in let b = ap length (sym f) in
        let g = length-append dms (m ∷ ms) in omega (arith, a, b, g, n, long))
    makes-chain rest d ds (y ∷ ys) dms (m ∷ ms) e f n w h =
        let entered = w.0.1.entered in
        c_does
        (ok_next {x = y} (lit< tt) entered (ap length (ap captured_by entered.there)) (target w.0.1.mark)
        (subst (λ zs. slice_get zs (length (d ∷ ds)) ≡ Some y) e (get-here (d ∷ ds) ys y)) at_m (zeros-get ls _ m at_m) long
        (put-into (Reg 16) (IsThat (Variable 0 y)) (Variable 0 y) (G (d ∷ ds)) (g-none (d ∷ ds) 16) is_that) not_yet)
        (c_does
        (ok_stored (Variable 0 y) h.0.small (inl refl) (store-into (d ∷ ds) y h.0) long
        (stored-onward (d ∷ ds) ms y (suc (length (d ∷ ds))) (sym (length-last (d ∷ ds) y)) last))
        (makes-chain rest d (ds ++ y ∷ []) ys (dms ++ m ∷ []) ms (append_assoc (d ∷ ds) (y ∷ []) ys ∙ e)
        (append_assoc dms (m ∷ []) ms ∙ f) (length-last (d ∷ ds) y ∙ ap suc n ∙ sym (length-last dms m)) w.1 h.1))
      where
        at_m : slice_get ls (length (d ∷ ds)) ≡ Some m
        at_m = subst (λ i. slice_get ls i ≡ Some m) (sym n) (subst (λ zs. slice_get zs (length dms) ≡ Some m) f (get-here dms ms m))

        last : ms ≡ [] → (d ∷ ds) ++ y ∷ [] ≡ xs
        last z =
            ap (λ zs. (d ∷ ds) ++ y ∷ zs) (sym (none-left (let a = ap length e in let b = ap length f in let g = length-append dms (m ∷ ms) in
            let g2 = length-append (d ∷ ds) (y ∷ ys) in let z2 = ap length z in omega (arith, a, b, g, g2, n, z2, long)))) ∙ e
          where
            none-left : length ys ≡ 0 → ys ≡ []
            none-left r = empty-list ys r

    -- while the words of lambda m, which y is bound to, are written
    abbrev at_word : List ℕ → List ℕ → ℕ → Point
    at_word dms ms j = AtAll (length xs) (counts c dms ++ (j ∷ zeros ms)) xs ls k js

    same-map : (es fs : List Entry) → ((q : Spot) (s : Symbol) → IsIn (Stands q s) fs → IsIn (Stands q s) es) → From Same fs es
    same-map es fs h = record { from = λ q s i. (s, h q s i, same s) }

    not-one : (z : ℕ) (t : Symbol) → IsIn (Stands (Reg 1) t) (Stands (Reg 16) (Variable 0 z) ∷ G xs) → ⊥
    not-one z t (inl r) = let h = reg-same 1 16 (entry-spot (Reg 16) (Reg 1) _ t r) in absurd (omega (arith, h))
    not-one z t (inr i) = g-none xs 1 t i

    in-lambdas : (ms : List ℕ) (i n : ℕ) → slice_get ms i ≡ Some n → (z : ℕ) → IsIn z (captured_in p n) → IsIn z (of_lambdas (captured_in p) ms)
    in-lambdas [] i n r z h = absurd (none-some r)
    in-lambdas (l ∷ ms) zero n r z h = in-left (captured_in p l) _ z (subst (λ a. IsIn z (captured_in p a)) (sym (some-same r)) h)
    in-lambdas (l ∷ ms) (suc i) n r z h = in-right (captured_in p l) _ z (in-lambdas ms i n r z h)

    -- a lambda of the group, and how many of its words are written
    at_lambda : (dms ms : List ℕ) (m : ℕ) → dms ++ m ∷ ms ≡ ls → slice_get ls (length dms) ≡ Some m
    at_lambda dms ms m g = subst (λ zs. slice_get zs (length dms) ≡ Some m) g (get-here dms ms m)

    at_count : (dms ns : List ℕ) (j : ℕ) → slice_get (counts c dms ++ j ∷ ns) (length dms) ≡ Some j
    at_count dms ns j = subst (λ i. slice_get (counts c dms ++ j ∷ ns) i ≡ Some j) (counts-length dms) (get-here (counts c dms) ns j)

    next_count : (dms ns : List ℕ) (j : ℕ) → slice_set (counts c dms ++ j ∷ ns) (length dms) (suc j) ≡ counts c dms ++ suc j ∷ ns
    next_count dms ns j =
        ap (λ i. slice_set (counts c dms ++ j ∷ ns) i (suc j)) (sym (counts-length dms)) ∙ set-here (counts c dms) ns j (suc j)

    captured-stands : (m : ℕ) (dms ms before cs : List ℕ) (x : ℕ) → dms ++ m ∷ ms ≡ ls → captured_in p m ≡ before ++ x ∷ cs →
        IsIn (Stands (Slot (home x)) (Variable 0 x)) (G xs)
    captured-stands m dms ms before cs x g e =
        g-in xs x (bound-stands x (in-left (of_lambdas (captured_in p) ls) _ x
        (in-lambdas ls (length dms) m (at_lambda dms ms m g) x (subst (IsIn x) (sym e) (in-here before cs x)))))

    -- the words of one lambda, where those before are written
    words-chain : (rest : List Noted) (y m : ℕ) (dms ms before : List ℕ) (x : ℕ) (cs : List ℕ) →
        slice_get xs (length dms) ≡ Some y → dms ++ m ∷ ms ≡ ls → captured_in p m ≡ before ++ x ∷ cs →
        Chain p all rest (Some (here c (at_word dms ms (length before)) (Stands (Reg 16) (Variable 0 y) ∷ G xs)))
        (words c y (at_word dms ms) (G xs) (length before) (x ∷ cs)) (Some (words_note (dms ++ m ∷ []) ms))
    words-chain rest y m dms ms before x [] f g e =
        let es = Stands (Reg 16) (Variable 0 y) ∷ G xs in
        let st = captured-stands m dms ms before [] x g e in
        c_does
        (ok_load (Variable 0 x) (lit< tt) (inr st)
        (put-into (Reg 1) (StandsAt (Slot (home x)) es) (Variable 0 x) es (not-one y) (stands_at (inr st))))
        (c_does
        (ok_word (length dms) y x m f (at_lambda dms ms m g) (at_count dms (zeros ms) (length before))
        (ap (λ zs. slice_get zs (length before)) e ∙ get-here before [] x) long (inr (inl refl)) (inl refl)
        (same-map (Stands (Reg 1) (Variable 0 x) ∷ es) (G xs) (λ q s i. inr (inr i)))
        (subst (λ ns. Onward p (Here size) (G xs) (length xs) ns xs ls k js (words_note (dms ++ m ∷ []) ms)) (sym all_words_of)
        (onward-words (dms ++ m ∷ []) ms (append_assoc dms (m ∷ []) ms ∙ g))))
        c_end)
      where
        all_words_of : slice_set (counts c dms ++ length before ∷ zeros ms) (length dms) (suc (length before)) ≡ counts c (dms ++ m ∷ []) ++ zeros ms
        all_words_of =
            next_count dms (zeros ms) (length before)
            ∙ ap (λ n. counts c dms ++ n ∷ zeros ms) (sym (ap length e ∙ length-last before x))
            ∙ sym (counts-more dms m (zeros ms))
    words-chain rest y m dms ms before x (z ∷ cs) f g e =
        let es = Stands (Reg 16) (Variable 0 y) ∷ G xs in
        let st = captured-stands m dms ms before (z ∷ cs) x g e in
        c_does
        (ok_load (Variable 0 x) (lit< tt) (inr st)
        (put-into (Reg 1) (StandsAt (Slot (home x)) es) (Variable 0 x) es (not-one y) (stands_at (inr st))))
        (c_does
        (ok_word (length dms) y x m f (at_lambda dms ms m g) (at_count dms (zeros ms) (length before))
        (ap (λ zs. slice_get zs (length before)) e ∙ get-here before (z ∷ cs) x) long (inr (inl refl)) (inl refl)
        (same-map (Stands (Reg 1) (Variable 0 x) ∷ es) es (λ q s i. inr i))
        (subst (λ ns. Onward p (Here size) es (length xs) ns xs ls k js (here c (at_word dms ms (suc (length before))) es))
        (sym (next_count dms (zeros ms) (length before))) not_yet))
        (subst (λ n. Chain p all rest (Some (here c (at_word dms ms n) es)) (words c y (at_word dms ms) (G xs) n (z ∷ cs)) (Some (words_note (dms ++ m ∷ []) ms)))
        (length-last before x)
        (words-chain rest y m dms ms (before ++ x ∷ []) z cs f g (e ∙ sym (append_assoc before (x ∷ []) (z ∷ cs))))))

    -- the words of the lambdas that are left
    writes-chain : (rest : List Noted) (dys ys dms ms : List ℕ) → dys ++ ys ≡ xs → dms ++ ms ≡ ls → length dys ≡ length dms →
        Chain p all rest (Some (words_note dms ms)) (writes c xs ls k js dms ys ms) (Some (block_note c k js))
    writes-chain rest dys [] dms [] e f n = c_end
    writes-chain rest dys (y ∷ ys) dms [] e f n = c_end
    writes-chain rest dys [] dms (m ∷ ms) e f n =
        absurd (let a = ap length (sym (append-nil dys) ∙ e) in let b = ap length (sym f) in
        let g = length-append dms (m ∷ ms) in omega (arith, a, b, g, n, long))
    writes-chain rest dys (y ∷ ys) dms (m ∷ ms) e f n =
        chain-on p all rest (writes c xs ls k js (dms ++ m ∷ []) ys ms) _ _ _ _
        (one-lambda (captured_in p m) refl)
        (writes-chain rest (dys ++ y ∷ []) ys (dms ++ m ∷ []) ms (append_assoc dys (y ∷ []) ys ∙ e) (append_assoc dms (m ∷ []) ms ∙ f)
        (length-last dys y ∙ ap suc n ∙ sym (length-last dms m)))
      where
        at_y : slice_get xs (length dms) ≡ Some y
        at_y = subst (λ i. slice_get xs i ≡ Some y) n (subst (λ zs. slice_get zs (length dys) ≡ Some y) e (get-here dys ys y))

        none-captured : captured_in p m ≡ [] → words_note dms (m ∷ ms) ≡ words_note (dms ++ m ∷ []) ms
        none-captured h =
            ap (λ zs. cond (is_some_list zs || has_words ms) (here c (at_word dms ms 0) (G xs)) (block_note c k js)) h
            ∙ ap (λ ns. cond (has_words ms) (here c (AtAll (length xs) ns xs ls k js) (G xs)) (block_note c k js))
            (ap (λ n. counts c dms ++ n ∷ zeros ms) (sym (ap length h)) ∙ sym (counts-more dms m (zeros ms)))

        one-lambda : (cs : List ℕ) → captured_in p m ≡ cs →
            Chain p all (writes c xs ls k js (dms ++ m ∷ []) ys ms ++ rest) (Some (words_note dms (m ∷ ms)))
            (all_words c y (at_word dms ms) (G xs) cs) (Some (words_note (dms ++ m ∷ []) ms))
        one-lambda [] r =
            subst (λ a. Chain p all (writes c xs ls k js (dms ++ m ∷ []) ys ms ++ rest) (Some a) [] (Some (words_note (dms ++ m ∷ []) ms)))
            (sym (none-captured r)) c_end
        one-lambda (x ∷ cs) r =
            let in_y = g-in xs y (in-left xs us y (in-at xs (length dms) y at_y)) in
            subst (λ a. Chain p all (writes c xs ls k js (dms ++ m ∷ []) ys ms ++ rest) (Some a)
            (all_words c y (at_word dms ms) (G xs) (x ∷ cs)) (Some (words_note (dms ++ m ∷ []) ms)))
            (sym (some-captured x cs r))
            (c_does
            (ok_load (Variable 0 y) (lit< tt) in_y
            (put-into (Reg 16) (StandsAt (Slot (home y)) (G xs)) (Variable 0 y) (G xs) (g-none xs 16) (stands_at in_y)))
            (words-chain (writes c xs ls k js (dms ++ m ∷ []) ys ms ++ rest) y m dms ms [] x cs at_y f r))
          where
            in-at : (zs : List ℕ) (i z : ℕ) → slice_get zs i ≡ Some z → IsIn z zs
            in-at [] i z h = absurd (none-some h)
            in-at (w ∷ zs) zero z h = inl (some-same h)
            in-at (w ∷ zs) (suc i) z h = inr (in-at zs i z h)

            some-captured : (v : ℕ) (vs : List ℕ) → captured_in p m ≡ v ∷ vs →
                words_note dms (m ∷ ms) ≡ here c (at_word dms ms 0) (G xs)
            some-captured v vs h =
                ap (λ zs. cond (is_some_list zs || has_words ms) (here c (at_word dms ms 0) (G xs)) (block_note c k js)) h

  -- procedures that are made together
  pub group-chain : (rest : List Noted) (xs ls : List ℕ) (k : Block) (js : Waiting) (ws : List ℕ) → length xs ≡ length ls → IsApart xs →
      AllEntered p all home size ls → HomesOk p all home size [] xs (free p (CloseAll xs ls k) ++ ws) →
      ((e y : ℕ) → Named c js e y → IsIn y ws) → free p (settled k) ≡ free p k → Settles k →
      Chain p all rest (Some (block_note c (CloseAll xs ls k) js)) (group c xs ls k js) (Some (block_note c k js))
  group-chain rest [] [] k js ws long apart w h named eq em = c_end
  group-chain rest [] (m ∷ ls) k js ws long apart w h named eq em = absurd (omega (arith, long))
  group-chain rest (x ∷ xs) [] k js ws long apart w h named eq em = absurd (omega (arith, long))
  group-chain rest (x ∷ xs) (m ∷ ls) k js ws long apart w h named eq em =
      let entered = w.0.1.entered in
      let all_xs = x ∷ xs in
      let all_ls = m ∷ ls in
      chain-on p all rest (writes c all_xs all_ls k js [] all_xs all_ls) _ _ _ _
      (c_does
      (ok_first {x = x} (lit< tt) entered (ap length (ap captured_by entered.there)) (target w.0.1.mark) apart (omega (arith, long))
      (record {
        stand_or = λ y i. stand y (bound-or all_xs all_ls k js ws long apart named eq em y
            (in-left (of_lambdas (captured_in p) all_ls) _ y (subst (IsIn y) (catches-same all_ls) i)));
      })
      first-into not_yet)
      (c_does
      (ok_stored (Variable 0 x) h.0.small (inl refl) (store-into all_xs all_ls k js ws long apart named eq em [] x h.0) long
      (stored-onward all_xs all_ls k js ws long apart named eq em [] ls x 1 refl last))
      (makes-chain all_xs all_ls k js ws long apart named eq em (writes c all_xs all_ls k js [] all_xs all_ls ++ rest) x [] xs (m ∷ []) ls refl refl refl w.1 h.1)))
      (writes-chain all_xs all_ls k js ws long apart named eq em rest [] all_xs [] all_ls refl refl refl)
    where
      stand : (y : ℕ) → IsIn y (x ∷ xs) ⊎ IsIn y (free p (CloseAll (x ∷ xs) (m ∷ ls) k)) →
          IsIn y (x ∷ xs) ⊎ ((q : Spot) × IsIn (Stands q (Variable 0 y)) (block_map c (CloseAll (x ∷ xs) (m ∷ ls) k) js))
      stand y (inl i) = inl i
      stand y (inr i) = inr (Slot (home y), in-left (variables c 0 (free p (CloseAll (x ∷ xs) (m ∷ ls) k))) _ _ (in-variables c 0 y _ i))

      last : ls ≡ [] → x ∷ [] ≡ x ∷ xs
      last z = ap (λ zs. x ∷ zs) (sym (empty-list xs (let r = ap length z in omega (arith, r, long))))

      first-into : Into (Reg 16) (IsThat (Variable 0 x)) (Kept (x ∷ xs) (free p (CloseAll (x ∷ xs) (m ∷ ls) k)))
          (Stands (Reg 16) (Variable 0 x) ∷ group_map c (x ∷ xs) (m ∷ ls) k js []) (block_map c (CloseAll (x ∷ xs) (m ∷ ls) k) js)
      first-into = record {
        into = λ q s i. ⊎_elim
            (λ e. inl (entry-spot (Reg 16) q _ s e, subst (IsThat (Variable 0 x)) (sym (entry-symbol (Reg 16) q _ s e)) is_that))
            (λ g. inr (
              (λ e. (block-slots c (CloseAll (x ∷ xs) (m ∷ ls) k) js).none 16 s
                  (subst (λ r. IsIn (Stands r s) (block_map c (CloseAll (x ∷ xs) (m ∷ ls) k) js)) (sym e) g)),
              (
                s,
                g,
                ⊎_elim
                    (λ v. let t = variables-in c 0 (free p (CloseAll (x ∷ xs) (m ∷ ls) k)) q s v in
                    subst (λ r. Kept (x ∷ xs) (free p (CloseAll (x ∷ xs) (m ∷ ls) k)) r r) (sym t.2.symbol)
                    (k_var t.0 (λ j. true≢false (sym (tested-in (x ∷ xs) t.0 j) ∙ kept-apart (x ∷ xs) _ t.0 t.1)) t.1))
                    (λ v. let t = waiting-in c 1 js q s v in
                    subst (λ r. Kept (x ∷ xs) (free p (CloseAll (x ∷ xs) (m ∷ ls) k)) r r)
                    (sym (t.symbol ∙ ap (λ n. Variable n t.var) (down-more 0 t.deep))) (k_deep (down 0 t.deep) t.var))
                    (in-cases (variables c 0 (free p (CloseAll (x ∷ xs) (m ∷ ls) k))) _ _ g),
              ),
            ))
            i;
      }
