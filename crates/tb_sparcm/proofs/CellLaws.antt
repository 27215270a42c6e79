-- Words of code, decoded.
use Rattle.std.proofs.Common.{◌≡◌, ℕ, zero, suc, ◌+◌, ◌<◌, ◌≤◌, ◌==◌, Bool, true, false, cond, List, [], ◌∷◌, ◌++◌, length, take, drop, get_or, Option, Some, None, All, slice_get, slice_set, refl, sym, ap, ◌∙◌, arith, append_assoc, append-nil}
use Rattle.std.specs.Prelude.{map, option_map}
use Rattle.std.proofs.lemmas.Bool.{eq-eqb}
use Rattle.std.proofs.lemmas.Bool.Decides.{nat_tests}
use Rattle.std.proofs.lemmas.List.Elements.{All-head, All-tail}
use Rattle.std.proofs.lemmas.Option.{get_or_from_slice_get, slice_get_within}
use Rattle.tb_mac.specs.declared.word.Word.{Word}
use Rattle.tb_mac.specs.Words.{on_some}
use Rattle.tb_macm.proofs.Lists.{drop_all, drop_here}
use Rattle.tb_sparc.specs.declared.instr.SparcInstr.{SparcInstr}
use Rattle.tb_sparc.specs.Grouped.{group_at, group_from}
use Rattle.tb_sparc.specs.Word.{instr_of}
use Rattle.tb_sparc.specs.WordBits.{word_bits}
use Rattle.tb_sparcm.specs.calls.Cells.{cells_from}
use Rattle.tb_sparcm.specs.declared.cell.Cell.{Cell}

abbrev pub cell_of : List ℕ → ℕ → ℕ → Cell
cell_of starts word w = record { instr = instr_of w; group = group_at starts word }

same_cell : (u v : Cell) → u.instr ≡ v.instr → u.group ≡ v.group → u ≡ v
same_cell u v i n =
    let a : u ≡ record { instr = v.instr; group = u.group } = ap (λ (x : Option SparcInstr). let c : Cell = record { instr = x; group = u.group } in c) i in
    let b : record { instr = v.instr; group = u.group } ≡ v = ap (λ (x : Option ℕ). let c : Cell = record { instr = v.instr; group = x } in c) n in
    a ∙ b

-- the cell of a word
pub cell_at : (starts : List ℕ) (word k : ℕ) (ws : List ℕ) → slice_get (cells_from starts word ws) k ≡ option_map (cell_of starts (word + k)) (slice_get ws k)
cell_at starts word k [] = grind arith
cell_at starts word zero (w ∷ ws) = let e : word ≡ word + 0 = omega arith in ap (λ (i : ℕ). Some (cell_of starts i w)) e
cell_at starts word (suc k) (w ∷ ws) = let e : word + 1 + k ≡ word + suc k = omega arith in cell_at starts (word + 1) k ws ∙ ap (λ (i : ℕ). option_map (cell_of starts i) (slice_get ws k)) e

-- the words from number k on are still to be decoded
pub record Decoding (cells : List Cell) (k : ℕ) (words : List ℕ) (goal : List Cell) : Type 0 where
  pub rest : cells ++ cells_from [] k (drop k words) ≡ goal

pub decoding_step : (cells : List Cell) (k : ℕ) (words : List ℕ) (goal : List Cell) (w : ℕ) (cell : Cell) → k < length words → w ≡ get_or words k w → cell.instr ≡ instr_of w → cell.group ≡ None → Decoding cells k words goal → Decoding (cells ++ cell ∷ []) (k + 1) words goal
decoding_step cells k words goal w cell lt e i n p =
    let here : cell ≡ cell_of [] k w = same_cell cell (cell_of [] k w) i n in
    let f : cells_from [] k (drop k words) ≡ cell_of [] k w ∷ cells_from [] (k + 1) (drop (k + 1) words) = ap (cells_from [] k) (drop_here words k w lt e) in
    record {
      rest =
          append_assoc cells (cell ∷ []) (cells_from [] (k + 1) (drop (k + 1) words))
          ∙ ap (λ (x : Cell). cells ++ (x ∷ cells_from [] (k + 1) (drop (k + 1) words))) here
          ∙ sym (ap (λ (cs : List Cell). cells ++ cs) f) ∙ p.rest;
    }

pub decoding_end : (cells : List Cell) (k : ℕ) (words : List ℕ) (goal : List Cell) → k ≡ length words → Decoding cells k words goal → cells ≡ goal
decoding_end cells k words goal e p =
    sym (append-nil cells) ∙ sym (ap (λ (ws : List ℕ). cells ++ cells_from [] k ws) (drop_all words k e)) ∙ p.rest

on_cond : (b : Bool) (m : ℕ) (o e : Option ℕ) → on_some (cond b (Some m) o) e (λ later. Some later) ≡ cond b (Some m) (on_some o e (λ later. Some later))
on_cond true m o e = refl
on_cond false m o e = refl

-- one more start
more_from : (n : ℕ) (starts : List ℕ) (x word : ℕ) → group_from n (starts ++ x ∷ []) word ≡ cond (x == word) (Some (n + length starts)) (group_from n starts word)
more_from n [] x word = let e : n ≡ n + 0 = omega arith in ap (λ (k : ℕ). cond (x == word) (Some k) None) e
more_from n (s ∷ starts) x word =
    let e : n + 1 + length starts ≡ n + suc (length starts) = omega arith in
    ap (λ (o : Option ℕ). on_some o (cond (s == word) (Some n) None) (λ later. Some later)) (more_from (n + 1) starts x word)
    ∙ on_cond (x == word) (n + 1 + length starts) (group_from (n + 1) starts word) (cond (s == word) (Some n) None)
    ∙ ap (λ (k : ℕ). cond (x == word) (Some k) (group_from n (s ∷ starts) word)) e

starts_here : (starts : List ℕ) (x word : ℕ) → x ≡ word → group_at (starts ++ x ∷ []) word ≡ Some (length starts)
starts_here starts x word h =
    let t : (x == word) ≡ true = eq-eqb x word h in
    let e : 0 + length starts ≡ length starts = omega arith in
    more_from 0 starts x word ∙ ap (λ (b : Bool). cond b (Some (0 + length starts)) (group_at starts word)) t ∙ ap (λ (k : ℕ). Some k) e

starts_before : (starts : List ℕ) (x word : ℕ) → x < word → group_at (starts ++ x ∷ []) word ≡ group_at starts word
starts_before starts x word h =
    let t : (x == word) ≡ false = grind (arith, nat_tests, h) in
    more_from 0 starts x word ∙ ap (λ (b : Bool). cond b (Some (0 + length starts)) (group_at starts word)) t

starts_behind : (starts : List ℕ) (x word : ℕ) → word < x → group_at (starts ++ x ∷ []) word ≡ group_at starts word
starts_behind starts x word h =
    let t : (x == word) ≡ false = grind (arith, nat_tests, h) in
    more_from 0 starts x word ∙ ap (λ (b : Bool). cond b (Some (0 + length starts)) (group_at starts word)) t

same_cells : (ws starts : List ℕ) (x word : ℕ) → x < word → cells_from (starts ++ x ∷ []) word ws ≡ cells_from starts word ws
same_cells [] starts x word h = refl
same_cells (w ∷ ws) starts x word h =
    let a = starts_before starts x word h in
    let b = same_cells ws starts x (word + 1) (omega (arith, h)) in
    cc (a, b)

-- the cell at a start is marked
marked_from : (ws starts : List ℕ) (word k x : ℕ) (v : Cell) → x ≡ word + k → option_map (λ (u : Cell). u.instr) (slice_get (cells_from starts word ws) k) ≡ Some v.instr → v.group ≡ Some (length starts) → slice_set (cells_from starts word ws) k v ≡ cells_from (starts ++ x ∷ []) word ws
marked_from [] starts word k x v e i n = absurd (cc i)
marked_from (w ∷ ws) starts word zero x v e i n =
    let a : group_at (starts ++ x ∷ []) word ≡ Some (length starts) = starts_here starts x word (omega (arith, e)) in
    let b = same_cells ws starts x (word + 1) (omega (arith, e)) in
    let there = cell_of (starts ++ x ∷ []) word w in
    let j : v.instr ≡ instr_of w = cc i in
    ap (λ (u : Cell). u ∷ cells_from starts (word + 1) ws) (same_cell v there j (n ∙ sym a)) ∙ ap (λ (cs : List Cell). there ∷ cs) (sym b)
marked_from (w ∷ ws) starts word (suc k) x v e i n =
    let a = starts_behind starts x word (omega (arith, e)) in
    let here = cell_of starts word w in
    let there = cell_of (starts ++ x ∷ []) word w in
    ap (λ (cs : List Cell). here ∷ cs) (marked_from ws starts (word + 1) k x v (omega (arith, e)) i n)
    ∙ ap (λ (u : Cell). u ∷ cells_from (starts ++ x ∷ []) (word + 1) ws) (same_cell here there refl (sym a))

-- a start behind the words marks none
unmarked_from : (ws starts : List ℕ) (word x : ℕ) → word + length ws ≤ x → cells_from starts word ws ≡ cells_from (starts ++ x ∷ []) word ws
unmarked_from [] starts word x h = refl
unmarked_from (w ∷ ws) starts word x h =
    let a = starts_behind starts x word (omega (arith, h)) in
    let here = cell_of starts word w in
    let there = cell_of (starts ++ x ∷ []) word w in
    ap (λ (cs : List Cell). here ∷ cs) (unmarked_from ws starts (word + 1) x (omega (arith, h)))
    ∙ ap (λ (u : Cell). u ∷ cells_from (starts ++ x ∷ []) (word + 1) ws) (same_cell here there refl (sym a))

-- the starts before number k are marked
pub record Marking (cells : List Cell) (k : ℕ) (words starts : List ℕ) : Type 0 where
  pub is : cells ≡ cells_from (take k starts) 0 words

take_here : (starts : List ℕ) (k x : ℕ) → k < length starts → x ≡ get_or starts k 0 → take (k + 1) starts ≡ take k starts ++ x ∷ []
take_here [] k x lt e = absurd (omega (arith, lt))
take_here (s ∷ starts) zero x lt e = ap (λ (v : ℕ). v ∷ []) (sym e)
take_here (s ∷ starts) (suc k) x lt e = let n : suc k + 1 ≡ suc (k + 1) = omega arith in ap (λ (i : ℕ). take i (s ∷ starts)) n ∙ ap (λ (vs : List ℕ). s ∷ vs) (take_here starts k x (omega (arith, lt)) e)

length_take : (starts : List ℕ) (k : ℕ) → k < length starts → length (take k starts) ≡ k
length_take [] k lt = absurd (omega (arith, lt))
length_take (s ∷ starts) zero lt = refl
length_take (s ∷ starts) (suc k) lt = ap (λ n. suc n) (length_take starts k (omega (arith, lt)))

length_cells : (starts : List ℕ) (word : ℕ) (ws : List ℕ) → length (cells_from starts word ws) ≡ length ws
length_cells starts word [] = refl
length_cells starts word (w ∷ ws) = ap (λ n. suc n) (length_cells starts (word + 1) ws)

got : (cells : List Cell) (k : ℕ) (d : Cell) → k < length cells → slice_get cells k ≡ Some (get_or cells k d)
got [] k d lt = absurd (omega (arith, lt))
got (c ∷ cells) zero d lt = refl
got (c ∷ cells) (suc k) d lt = got cells k d (omega (arith, lt))

instr_here : (cells : List Cell) (k : ℕ) (u v : Cell) → slice_get cells k ≡ Some u → v.instr ≡ u.instr → option_map (λ (x : Cell). x.instr) (slice_get cells k) ≡ Some v.instr
instr_here cells k u v h i = ap (option_map (λ (x : Cell). x.instr)) h ∙ ap (λ (o : Option SparcInstr). Some o) (sym i)

pub marking_step : (cells : List Cell) (k : ℕ) (words starts : List ℕ) (x : ℕ) (d v : Cell) → k < length starts → x ≡ get_or starts k 0 → x < length cells → v.instr ≡ (get_or cells x d).instr → v.group ≡ Some k → Marking cells k words starts → Marking (slice_set cells x v) (k + 1) words starts
marking_step cells k words starts x d v lt e h i n m =
    let c = instr_here cells x (get_or cells x d) v (got cells x d h) i in
    let c' : option_map (λ (y : Cell). y.instr) (slice_get (cells_from (take k starts) 0 words) x) ≡ Some v.instr = ap (λ (cs : List Cell). option_map (λ (y : Cell). y.instr) (slice_get cs x)) (sym m.is) ∙ c in
    let n' : v.group ≡ Some (length (take k starts)) = n ∙ ap (λ (j : ℕ). Some j) (sym (length_take starts k lt)) in
    record {
      is =
          ap (λ (cs : List Cell). slice_set cs x v) m.is
          ∙ marked_from words (take k starts) 0 x x v (omega arith) c' n'
          ∙ sym (ap (λ (ss : List ℕ). cells_from ss 0 words) (take_here starts k x lt e));
    }

pub marking_past : (cells : List Cell) (k : ℕ) (words starts : List ℕ) (x : ℕ) → k < length starts → x ≡ get_or starts k 0 → length cells ≤ x → Marking cells k words starts → Marking cells (k + 1) words starts
marking_past cells k words starts x lt e past m =
    let l : length cells ≡ length words = ap length m.is ∙ length_cells (take k starts) 0 words in
    record {
      is =
          m.is ∙ unmarked_from words (take k starts) 0 x (omega (arith, past, l))
          ∙ sym (ap (λ (ss : List ℕ). cells_from ss 0 words) (take_here starts k x lt e));
    }

take_all : (starts : List ℕ) (k : ℕ) → k ≡ length starts → take k starts ≡ starts
take_all [] zero e = refl
take_all [] (suc k) e = refl
take_all (s ∷ starts) zero e = absurd (omega (arith, e))
take_all (s ∷ starts) (suc k) e = ap (λ (vs : List ℕ). s ∷ vs) (take_all starts k (omega (arith, e)))

pub marking_end : (cells : List Cell) (k : ℕ) (words starts : List ℕ) → k ≡ length starts → Marking cells k words starts → cells ≡ cells_from starts 0 words
marking_end cells k words starts e m = m.is ∙ ap (λ (ss : List ℕ). cells_from ss 0 words) (take_all starts k e)

-- the data words from number k on are still to be written
pub record Writing (done : List ℕ) (k : ℕ) (starts : List ℕ) (words : List Word) : Type 0 where
  pub rest : done ++ map (word_bits starts) (drop k words) ≡ map (word_bits starts) words

pub writing_step : (done : List ℕ) (k : ℕ) (starts : List ℕ) (words : List Word) (w : Word) (bits : ℕ) → slice_get words k ≡ Some w → bits ≡ word_bits starts w → Writing done k starts words → Writing (done ++ bits ∷ []) (k + 1) starts words
writing_step done k starts words w bits h b p =
    let lt : k < length words = slice_get_within words k w h in
    let e : w ≡ get_or words k w = sym (get_or_from_slice_get words k w w h) in
    let f : map (word_bits starts) (drop k words) ≡ word_bits starts w ∷ map (word_bits starts) (drop (k + 1) words) = ap (map (word_bits starts)) (drop_here words k w lt e) in
    record {
      rest =
          append_assoc done (bits ∷ []) (map (word_bits starts) (drop (k + 1) words))
          ∙ ap (λ (x : ℕ). done ++ (x ∷ map (word_bits starts) (drop (k + 1) words))) b
          ∙ sym (ap (λ (xs : List ℕ). done ++ xs) f) ∙ p.rest;
    }

pub writing_end : (done : List ℕ) (k : ℕ) (starts : List ℕ) (words : List Word) → k ≡ length words → Writing done k starts words → done ≡ map (word_bits starts) words
writing_end done k starts words e p =
    sym (append-nil done) ∙ sym (ap (λ (ws : List Word). done ++ map (word_bits starts) ws) (drop_all words k e)) ∙ p.rest

-- no group starts behind the words
no_group_from : (n : ℕ) (starts : List ℕ) (most word : ℕ) → All (λ start. start < most) starts → most ≤ word → group_from n starts word ≡ None
no_group_from n [] most word a h = refl
no_group_from n (s ∷ starts) most word a h =
    let lt : s < most = All-head (λ start. start < most) s starts a in
    let t : (s == word) ≡ false = grind (arith, nat_tests, lt, h) in
    ap (λ (o : Option ℕ). on_some o (cond (s == word) (Some n) None) (λ later. Some later)) (no_group_from (n + 1) starts most word (All-tail (λ start. start < most) s starts a) h)
    ∙ ap (λ (b : Bool). cond b (Some n) None) t

pub no_group : (starts : List ℕ) (most word : ℕ) → All (λ start. start < most) starts → most ≤ word → group_at starts word ≡ None
no_group starts most word a h = no_group_from 0 starts most word a h
