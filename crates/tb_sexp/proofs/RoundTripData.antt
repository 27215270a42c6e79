-- The printed text of a datum that was read spells that datum, from any place and before any rest that ends a word.
use Rattle.std.proofs.Common.{◌≡◌, ◌≢◌, ℕ, suc, Bool, true, false, List, [], ◌∷◌, ◌++◌, refl, sym, ap, ◌∙◌, subst, append_assoc, append-nil}
use Rattle.std.specs.Prelude.{codes}
use Rattle.std.proofs.lemmas.Bool.{false≢true}
use Rattle.tb_prim.specs.declared.place.Place.{Place}
use Rattle.tb_sexp.specs.declared.token.Token.{Token}
use Rattle.tb_sexp.specs.declared.token.Token.TheVariants as token
use Rattle.tb_sexp.specs.Blanks.{closed, nothing}
use Rattle.tb_sexp.specs.ListShapes.{list_of, dotted, dotted_with}
use Rattle.tb_sexp.specs.Grammar.{Placed, placed, Atom, of_bool, of_fix, of_char, of_str, of_name, IsDatum, an_atom, a_mark, a_list, a_dotted_list, a_vector, AreData, no_data, more_data}
use Rattle.tb_sexp.specs.Places.{behind_all, text_start}
use Rattle.tb_sexp.specs.Printing.{printed, printed_all, printed_truth}
use Rattle.tb_sexp.specs.DatumRules.{is_list}
use Rattle.tb_sexp.specs.ReadData.{IsRead, read_nil, read_truth, read_fixnum, read_character, read_string, read_name, read_list, read_dotted, read_vector, AreRead, no_read, more_read, unplaced, unplaced_shape, unplaced_all, SameData, ReadsBack}
use Rattle.tb_sexp.specs.Texts.{Begins, no_tokens, IsText}
use Rattle.tb_sexp.specs.Tokens.{Spells, EndsWord, EndsAt, open_list, open_vector, close, dot, truth, falsity}
use Rattle.tb_sexp.specs.Tree.{Tree, At, Shape, Nil, Truth, Fixnum, Character, String, Name, Proper, Dotted, Vector, Trees, none, more}
use Rattle.tb_sexp.specs.View.{trees}
use Rattle.tb_sexp.proofs.RoundTripAtoms.{fixnum_spelled, character_spelled, string_spelled, name_spelled}
use Rattle.tb_sexp.proofs.RoundTripBegins.{Lead, no_lead, a_space, begins_then, lead_before, one_word}

-- bytes at a place spell a datum, the same as this one, and leave the rest
record Spelled (n : ℕ) (p : Place) (bs rest : List ℕ) (d : Tree) : Type 0 where
  tokens : List Placed
  last : Place
  datum : Tree
  begins : Begins p bs tokens last rest
  spelled : IsDatum n tokens datum
  same : SameData datum d

-- the same of a list of data
record AllSpelled (n : ℕ) (p : Place) (bs rest : List ℕ) (ds : Trees) : Type 0 where
  tokens : List Placed
  last : Place
  elements : List Tree
  begins : Begins p bs tokens last rest
  spelled : AreData n tokens elements
  same : unplaced_all (trees elements) ≡ unplaced_all ds

spelled_at : {n : ℕ} {p : Place} {bs cs rest : List ℕ} {d : Tree} → cs ≡ bs → Spelled n p bs rest d → Spelled n p cs rest d
spelled_at {n} {p} {bs} {cs} {rest} {d} e h = subst (λ xs. Spelled n p xs rest d) (sym e) h

-- a token that is a datum by itself
atom_spelled : {n : ℕ} {q : Place} {w : List ℕ} {t : Token} {s : Shape} (p : Place) (rest : List ℕ) → Spells w t → EndsAt t rest → Atom t s → unplaced_shape s ≡ s → Spelled n p (w ++ rest) rest (At q s)
atom_spelled {w = w} {t = t} {s = s} p rest spells ends a same = record {
  tokens = placed p t ∷ [];
  last = behind_all p w;
  datum = At p s;
  begins = one_word p w rest t spells ends;
  spelled = an_atom a;
  same = refl;
}

some_tokens : {n : ℕ} {ts : List Placed} {d : Tree} → IsDatum n ts d → ts ≢ []
some_tokens (an_atom a) e = cc
some_tokens (a_mark x) e = cc
some_tokens (a_list q x) e = cc
some_tokens (a_dotted_list q r x some y) e = cc
some_tokens (a_vector q x) e = cc

truth_spelled : (b : Bool) → Spells (printed_truth b) (token.Bool b)
truth_spelled true = truth refl
truth_spelled false = falsity refl

-- `)`, and what follows
closing : (p : Place) (rest : List ℕ) → Begins p (41 ∷ rest) (placed p token.Close ∷ []) (behind_all p (codes ")")) rest
closing p rest = one_word p (codes ")") rest token.Close close tt

opening : (p : Place) (rest : List ℕ) → Begins p (40 ∷ rest) (placed p token.Open ∷ []) (behind_all p (codes "(")) rest
opening p rest = one_word p (codes "(") rest token.Open open_list tt

opening_vector : (p : Place) (rest : List ℕ) → Begins p (35 ∷ 40 ∷ rest) (placed p token.OpenVector ∷ []) (behind_all p (codes "#(")) rest
opening_vector p rest = one_word p (codes "#(") rest token.OpenVector open_vector tt

-- the list of elements that are the same as these
list_same : (es : List Tree) (d : Tree) (ds : Trees) → unplaced_all (trees es) ≡ unplaced_all (more d ds) → unplaced_shape (list_of es) ≡ Proper (unplaced_all (more d ds))
list_same [] d ds e = absurd (cc)
list_same (x ∷ es) d ds e = ap Proper e

some_elements : (es : List Tree) (d : Tree) (ds : Trees) → unplaced_all (trees es) ≡ unplaced_all (more d ds) → es ≢ []
some_elements [] d ds e is = absurd (cc)
some_elements (x ∷ es) d ds e is = cc

same_kind : (s : Shape) → is_list (unplaced_shape s) ≡ is_list s
same_kind Nil = refl
same_kind (Truth b) = refl
same_kind (Fixnum n) = refl
same_kind (Character c) = refl
same_kind (String s) = refl
same_kind (Name s a) = refl
same_kind (Proper ds) = refl
same_kind (Dotted ds d) = refl
same_kind (Vector ds) = refl

-- a tail that is no list stays apart
tail_kept : (es : List Tree) (e : Tree) (s : Shape) → is_list s ≡ false → dotted_with es e s ≡ Dotted (trees es) e
tail_kept es e Nil h = absurd (false≢true (sym h))
tail_kept es e (Truth b) h = refl
tail_kept es e (Fixnum n) h = refl
tail_kept es e (Character c) h = refl
tail_kept es e (String s) h = refl
tail_kept es e (Name s a) h = refl
tail_kept es e (Proper ds) h = absurd (false≢true (sym h))
tail_kept es e (Dotted ds d) h = absurd (false≢true (sym h))
tail_kept es e (Vector ds) h = refl

abbrev shape_of : Tree → Shape
shape_of (At p s) = s

dotted_same : (es : List Tree) (e : Tree) (ds : Trees) (q : Place) (s : Shape) → unplaced_all (trees es) ≡ unplaced_all ds → SameData e (At q s) → is_list s ≡ false →
    unplaced_shape (dotted es e) ≡ Dotted (unplaced_all ds) (unplaced (At q s))
dotted_same es (At r t) ds q s row tail no_list =
    let kind : is_list t ≡ false = sym (same_kind t) ∙ ap (λ d. is_list (shape_of d)) tail ∙ same_kind s ∙ no_list in
    ap unplaced_shape (tail_kept es (At r t) t kind) ∙ ap (λ xs. Dotted xs (unplaced (At r t))) row ∙ ap (λ d. Dotted (unplaced_all ds) d) tail

-- what stands behind an element ends a word
ends_element : (ds : Trees) (rest : List ℕ) → EndsWord rest → EndsWord (printed_all (codes " ") ds ++ rest)
ends_element none rest ends = ends
ends_element (more d ds) rest ends = refl

row_text : (lead one row rest : List ℕ) → (lead ++ (one ++ row)) ++ rest ≡ lead ++ (one ++ (row ++ rest))
row_text lead one row rest = append_assoc lead (one ++ row) rest ∙ ap (λ xs. lead ++ xs) (append_assoc one row rest)

-- an empty list
nil_spelled : {n : ℕ} {q : Place} (p : Place) (rest : List ℕ) → Spelled (suc n) p (codes "()" ++ rest) rest (At q Nil)
nil_spelled p rest = record {
  tokens = placed p token.Open ∷ placed (behind_all p (codes "(")) token.Close ∷ [];
  last = behind_all p (codes "()");
  datum = At p Nil;
  begins = begins_then (opening p (41 ∷ rest)) (closing (behind_all p (codes "(")) rest);
  spelled = a_list (behind_all p (codes "(")) no_data;
  same = refl;
}

-- a list and a vector, by their elements
list_spelled : {n : ℕ} {q : Place} {d : Tree} {ds : Trees} (p : Place) (row rest : List ℕ) → AllSpelled n (behind_all p (codes "(")) (row ++ 41 ∷ rest) (41 ∷ rest) (more d ds) →
    Spelled (suc n) p ((40 ∷ (row ++ codes ")")) ++ rest) rest (At q (Proper (more d ds)))
list_spelled {d = d} {ds = ds} p row rest x = spelled_at (ap (λ xs. 40 ∷ xs) (append_assoc row (codes ")") rest)) (record {
  tokens = placed p token.Open ∷ (x.tokens ++ placed x.last token.Close ∷ []);
  last = behind_all x.last (codes ")");
  datum = At p (list_of x.elements);
  begins = begins_then (opening p (row ++ 41 ∷ rest)) (begins_then x.begins (closing x.last rest));
  spelled = a_list x.last x.spelled;
  same = ap (At (text_start false)) (list_same x.elements d ds x.same);
})

vector_spelled : {n : ℕ} {q : Place} {ds : Trees} (p : Place) (row rest : List ℕ) → AllSpelled n (behind_all p (codes "#(")) (row ++ 41 ∷ rest) (41 ∷ rest) ds →
    Spelled (suc n) p ((35 ∷ 40 ∷ (row ++ codes ")")) ++ rest) rest (At q (Vector ds))
vector_spelled p row rest x = spelled_at (ap (λ xs. 35 ∷ 40 ∷ xs) (append_assoc row (codes ")") rest)) (record {
  tokens = placed p token.OpenVector ∷ (x.tokens ++ placed x.last token.Close ∷ []);
  last = behind_all x.last (codes ")");
  datum = At p (Vector (trees x.elements));
  begins = begins_then (opening_vector p (row ++ 41 ∷ rest)) (begins_then x.begins (closing x.last rest));
  spelled = a_vector x.last x.spelled;
  same = ap (λ xs. At (text_start false) (Vector xs)) x.same;
})

-- a dotted list, by its elements and its tail
dotted_text : (row tail rest : List ℕ) → (40 ∷ (row ++ (32 ∷ 46 ∷ 32 ∷ (tail ++ codes ")")))) ++ rest ≡ 40 ∷ (row ++ 32 ∷ 46 ∷ 32 ∷ (tail ++ 41 ∷ rest))
dotted_text row tail rest =
    ap (λ xs. 40 ∷ xs) (append_assoc row (32 ∷ 46 ∷ 32 ∷ (tail ++ codes ")")) rest ∙ ap (λ xs. row ++ 32 ∷ 46 ∷ 32 ∷ xs) (append_assoc tail (codes ")") rest))

dot_before : (p : Place) (rest : List ℕ) → Begins p (32 ∷ 46 ∷ 32 ∷ rest) (placed (behind_all p (codes " ")) token.Dot ∷ []) (behind_all p (codes " .")) (32 ∷ rest)
dot_before p rest = lead_before a_space (λ e. cc) (one_word (behind_all p (codes " ")) (codes ".") (32 ∷ rest) token.Dot dot refl)

dotted_spelled : {n : ℕ} {q r : Place} {d : Tree} {ds : Trees} {s : Shape} (p : Place) (row tail rest : List ℕ) → is_list s ≡ false →
    (x : AllSpelled n (behind_all p (codes "(")) (row ++ 32 ∷ 46 ∷ 32 ∷ (tail ++ 41 ∷ rest)) (32 ∷ 46 ∷ 32 ∷ (tail ++ 41 ∷ rest)) (more d ds)) →
    Spelled n (behind_all x.last (codes " . ")) (tail ++ 41 ∷ rest) (41 ∷ rest) (At r s) →
    Spelled (suc n) p ((40 ∷ (row ++ (32 ∷ 46 ∷ 32 ∷ (tail ++ codes ")")))) ++ rest) rest (At q (Dotted (more d ds) (At r s)))
dotted_spelled {r = r} {d = d} {ds = ds} {s = s} p row tail rest no_list x y = spelled_at (dotted_text row tail rest) (record {
  tokens = placed p token.Open ∷ (x.tokens ++ placed (behind_all x.last (codes " ")) token.Dot ∷ (y.tokens ++ placed y.last token.Close ∷ []));
  last = behind_all y.last (codes ")");
  datum = At p (dotted x.elements y.datum);
  begins = begins_then (opening p (row ++ 32 ∷ 46 ∷ 32 ∷ (tail ++ 41 ∷ rest)))
      (begins_then x.begins (begins_then (dot_before x.last (tail ++ 41 ∷ rest)) (begins_then (lead_before a_space (some_tokens y.spelled) y.begins) (closing y.last rest))));
  spelled = a_dotted_list (behind_all x.last (codes " ")) y.last x.spelled (some_elements x.elements d ds x.same) y.spelled;
  same = ap (At (text_start false)) (dotted_same x.elements y.datum (more d ds) r s x.same y.same no_list);
})

-- a row of data, by the first and the others
row_spelled : {n : ℕ} {d : Tree} {ds : Trees} {lead : List ℕ} (p : Place) (one row rest : List ℕ) → Lead lead →
    (x : Spelled n (behind_all p lead) (one ++ (row ++ rest)) (row ++ rest) d) → AllSpelled n x.last (row ++ rest) rest ds →
    AllSpelled n p ((lead ++ (one ++ row)) ++ rest) rest (more d ds)
row_spelled {n} {d} {ds} {lead} p one row rest before x y = subst (λ bs. AllSpelled n p bs rest (more d ds)) (sym (row_text lead one row rest)) (record {
  tokens = x.tokens ++ y.tokens;
  last = y.last;
  elements = x.datum ∷ y.elements;
  begins = begins_then (lead_before before (some_tokens x.spelled) x.begins) y.begins;
  spelled = more_data x.spelled y.spelled;
  same = ap (λ e. more e (unplaced_all (trees y.elements))) x.same ∙ ap (λ es. more (unplaced d) es) y.same;
})

mutual
  datum_spelled : {n : ℕ} {d : Tree} → IsRead n d → (p : Place) (rest : List ℕ) → EndsWord rest → Spelled n p (printed d ++ rest) rest d
  datum_spelled read_nil p rest ends = nil_spelled p rest
  datum_spelled (read_truth {b = b}) p rest ends = atom_spelled p rest (truth_spelled b) ends of_bool refl
  datum_spelled (read_fixnum {z = z} h) p rest ends = atom_spelled p rest (fixnum_spelled z h) ends of_fix refl
  datum_spelled (read_character {c = c} h) p rest ends = atom_spelled p rest (character_spelled c) ends of_char refl
  datum_spelled (read_string {s = s} h few) p rest ends = atom_spelled p rest (string_spelled s few) tt of_str refl
  datum_spelled (read_name {s = s} h) p rest ends = atom_spelled p rest (name_spelled s h) ends of_name refl
  datum_spelled (read_list {d = d} {ds = ds} x) p rest ends =
      list_spelled p (printed_all [] (more d ds)) rest (data_spelled x [] no_lead (behind_all p (codes "(")) (41 ∷ rest) refl)
  datum_spelled (read_dotted {q = q} {d = d} {ds = ds} {s = s} x y no_list) p rest ends =
      let tail = printed (At q s) in
      let row = data_spelled x [] no_lead (behind_all p (codes "(")) (32 ∷ 46 ∷ 32 ∷ (tail ++ 41 ∷ rest)) refl in
      dotted_spelled p (printed_all [] (more d ds)) tail rest no_list row (datum_spelled y (behind_all row.last (codes " . ")) (41 ∷ rest) refl)
  datum_spelled (read_vector {ds = ds} x) p rest ends =
      vector_spelled p (printed_all [] ds) rest (data_spelled x [] no_lead (behind_all p (codes "#(")) (41 ∷ rest) refl)

  data_spelled : {n : ℕ} {ds : Trees} → AreRead n ds → (lead : List ℕ) → Lead lead → (p : Place) (rest : List ℕ) → EndsWord rest → AllSpelled n p (printed_all lead ds ++ rest) rest ds
  data_spelled no_read lead before p rest ends = record { tokens = []; last = p; elements = []; begins = no_tokens; spelled = no_data; same = refl }
  data_spelled (more_read {d = d} {ds = ds} x more_of) lead before p rest ends =
      let first = datum_spelled x (behind_all p lead) (printed_all (codes " ") ds ++ rest) (ends_element ds rest ends) in
      row_spelled p (printed d) (printed_all (codes " ") ds) rest before first (data_spelled more_of (codes " ") a_space first.last rest ends)

-- a whole text
pub printed_reads_back : (library : Bool) (d : Tree) → IsRead 256 d → ReadsBack library (printed d) d
printed_reads_back library d h =
    let x = datum_spelled h (text_start library) [] tt in
    let begins = subst (λ bs. Begins (text_start library) bs x.tokens x.last []) (append-nil (printed d)) x.begins in
    let whole : IsText library (printed d) (x.datum ∷ []) = record {
      tokens = x.tokens;
      read = record { place = x.last; left = []; begins = begins; ends = closed nothing };
      spelled = subst (λ ts. AreData 256 ts (x.datum ∷ [])) (append-nil x.tokens) (more_data x.spelled no_data);
    } in
    (x.datum, whole, x.same)
