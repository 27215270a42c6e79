-- The format of images: a name and a version, counts, and the parts of the code of both machines in order.
use Rattle.std.specs.Prelude.{ℕ, ◌+◌, ◌-◌, ◌/◌, ◌%◌, ◌^◌, ◌==◌, ◌&&◌, ◌||◌, Bool, true, false, cond, not, nat_le, nat_lt, List, [], ◌∷◌, ◌++◌, Option, Some, None, length, take, drop, slice_get}
use Rattle.tb_prim.specs.declared.constant.GlobalName.{GlobalName}
use Rattle.tb_mac.specs.declared.code.Instr.{Instr}
use Rattle.tb_mac.specs.declared.code.Instr.TheVariants as I
use Rattle.tb_mac.specs.declared.code.LambdaEntry.{LambdaEntry}
use Rattle.tb_mac.specs.declared.code.LiveMap.{LiveMap}
use Rattle.tb_mac.specs.declared.code.OrderEntry.{OrderEntry}
use Rattle.tb_mac.specs.declared.code.PlaceEntry.{PlaceEntry}
use Rattle.tb_mac.specs.Assembled.{Assembled}
use Rattle.tb_mac.specs.Rules.{failing_from}
use Rattle.tb_mac.specs.Words.{on_some}
use Rattle.tb_sparc.specs.Grouped.{Grouped}
use Rattle.tb_image.specs.Format.{Format, done, field, then, times}
use Rattle.tb_image.specs.Instructions.{Counts, instruction_format}
use Rattle.tb_image.specs.Numbers.{any, is_flag, number, place_format}
use Rattle.tb_image.specs.Objects.{object_format}

-- what an image says: the code of both machines
pub record Imaged : Type 0 where
  pub mac : Assembled
  pub sparc : Grouped

-- a global: 0 or 1 as the library defines it, how many bytes its name has, at least one, and these
abbrev pub global_format : Format GlobalName
global_format =
    number 1 is_flag (λ library.
    number 1 (λ n. nat_le 1 n) (λ n.
    field n any (λ name.
    done (record { library = library == 1; name = name }))))

-- eight bits, the lowest first
abbrev pub bits_of : ℕ → List Bool
bits_of b =
    (b % 2 == 1) ∷ (b / 2 % 2 == 1) ∷ (b / 4 % 2 == 1) ∷ (b / 8 % 2 == 1)
    ∷ (b / 16 % 2 == 1) ∷ (b / 32 % 2 == 1) ∷ (b / 64 % 2 == 1) ∷ (b / 128 % 2 == 1) ∷ []

abbrev pub all_bits : List ℕ → List Bool
all_bits [] = []
all_bits (b ∷ bs) = bits_of b ++ all_bits bs

abbrev pub none_set : List Bool → Bool
none_set [] = true
none_set (b ∷ bs) = cond b false (none_set bs)

-- the bits of so many slots, and unused bits, which are 0
abbrev pub slots_format : ℕ → ℕ → Format LiveMap
slots_format regs n =
    field ((n + 7) / 8) (λ bytes. none_set (drop n (all_bits bytes)))
    (λ bytes. done (record { regs = regs; slots = Some (take n (all_bits bytes)) }))

-- a live map: 17 register bits, and how many slots, at most 1,000, or 65535 for no own frame
abbrev pub map_format : Format LiveMap
map_format =
    number 4 (λ regs. nat_lt regs (2 ^ 17)) (λ regs.
    number 2 (λ n. nat_le n 1000 || (n == 65535)) (λ n.
    cond (n == 65535) (done (record { regs = regs; slots = None })) (slots_format regs n)))

-- the instruction is the entry of the lambda with this number
abbrev pub is_entry : ℕ → Option Instr → Bool
is_entry n (Some (I.Proc x)) = x == n
is_entry n _ = false

-- the lambda with this number: its place, 0 or 1 as it is lifted, and its entry
abbrev pub lambda_format : List Instr → ℕ → Format LambdaEntry
lambda_format code n =
    then (place_format is_flag) (λ place.
    number 1 is_flag (λ lifted.
    number 4 (λ entry. is_entry n (slice_get code entry)) (λ entry.
    done (record { place = place; lifted = lifted == 1; entry = entry }))))

-- the number is the one that stands at this place of the list
abbrev pub stands_at : List ℕ → ℕ → ℕ → Bool
stands_at numbers i x = on_some (slice_get numbers i) false (λ n. n == x)

-- the place of an instruction, which is the next of those that can fail
abbrev pub fail_format : List ℕ → ℕ → Format PlaceEntry
fail_format failing i =
    number 4 (stands_at failing i) (λ instr.
    then (place_format is_flag) (λ place.
    done (record { instr = instr; place = place })))

abbrev pub contains : List ℕ → ℕ → Bool
contains [] x = false
contains (n ∷ ns) x = (n == x) || contains ns x

-- the order of operands at a place: at most 1,000 numbers, each below how many they are, none twice. The first field
-- breaks its rule where the places before are too few
abbrev pub order_format : Bool → Format OrderEntry
order_format enough =
    then (place_format (λ library. enough && is_flag library)) (λ place.
    number 2 (λ m. nat_le m 1000) (λ m.
    then (times (λ before. number 2 (λ i. nat_lt i m && not (contains before i)) (λ i. done i)) m []) (λ order.
    done (record { place = place; order = order }))))

-- a word of SPARC code; it breaks its rule where the places before are too few
abbrev pub code_word_format : Bool → Format ℕ
code_word_format enough = number 4 (λ word. enough) (λ word. done word)

-- the start of a group: a word of the code, behind the start before
abbrev pub start_format : ℕ → List ℕ → Format ℕ
start_format words before =
    number 4 (λ start. nat_lt start words && on_some (slice_get before (length before - 1)) true (λ last. nat_lt last start)) (λ start. done start)

-- a count below 2^20
abbrev pub count : ℕ → Bool
count n = nat_lt n (2 ^ 20)

-- how many globals, static objects, lambdas, instructions, places, orders and words of SPARC code there are
abbrev pub counts_format : Format Counts
counts_format =
    number 4 count (λ globals.
    number 4 count (λ statics.
    number 4 count (λ lambdas.
    number 4 (λ code. nat_le 1 code && nat_lt code (2 ^ 24)) (λ code.
    number 4 any (λ places.
    number 4 count (λ orders.
    number 4 (λ words. nat_le code words && nat_le words 805306367) (λ words.
    done (record { globals = globals; statics = statics; lambdas = lambdas; code = code; places = places; orders = orders; words = words }))))))))

-- the parts of an image, behind its counts
abbrev pub parts_format : Counts → Format Imaged
parts_format k =
    then (times (λ before. global_format) k.globals []) (λ globals.
    then (times object_format k.statics []) (λ statics.
    then (times (λ before. instruction_format k statics) k.code []) (λ code.
    then (times (λ before. map_format) k.code []) (λ maps.
    then (times (λ before. lambda_format code (length before)) k.lambdas []) (λ lambdas.
    then (times (λ before. fail_format (failing_from 0 code) (length before)) k.places []) (λ places.
    let enough = length places == length (failing_from 0 code) in
    then (times (λ before. order_format enough) k.orders []) (λ order.
    then (times (λ before. code_word_format enough) k.words []) (λ words.
    then (times (start_format k.words) k.code []) (λ starts.
    done (record {
      mac = record {
        parts = record { globals = globals; statics = statics; lambdas = lambdas; order = order };
        code = code;
        maps = maps;
        places = places;
      };
      sparc = record { words = words; starts = starts };
    }))))))))))

-- the first four bytes, and the version, 1
abbrev pub is_name : ℕ → Bool
is_name n = n == 0x54574f42

abbrev pub is_version : ℕ → Bool
is_version n = n == 1

abbrev pub image_format : Format Imaged
image_format = number 4 is_name (λ name. number 4 is_version (λ version. then counts_format parts_format))
