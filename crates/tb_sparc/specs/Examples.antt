-- Runs of the definition on words written out.
use Rattle.std.specs.Prelude.{◌≡◌, ℕ, Bool, true, false, ℤ, pos, negsuc, List, [], ◌∷◌, ◌++◌, map, slice_index, Option, Some, None}
use Rattle.tb_prim.specs.declared.event.Cause.{Cause}
use Rattle.tb_prim.specs.declared.event.Event.{Event}
use Rattle.tb_prim.specs.declared.event.Stop.{Stop}
use Rattle.tb_prim.specs.declared.event.Taken.{Taken}
use Rattle.tb_semantics.specs.Runs.{after}
use Rattle.tb_mac.specs.declared.code.Instr.{Instr}
use Rattle.tb_mac.specs.declared.code.Instr.TheVariants as I
use Rattle.tb_mac.specs.Examples.{coded, spot}
use Rattle.tb_sparc.specs.declared.codes.Codes.{Codes}
use Rattle.tb_sparc.specs.declared.instr.AluOp.{AluOp}
use Rattle.tb_sparc.specs.declared.instr.AluOp.TheVariants.{Add, And, Or, Xor, Sub, Smul, Sdiv, AddCc, AndCc, OrCc, SubCc, TaddCc, TsubCc, Sll, Srl, Sra}
use Rattle.tb_sparc.specs.declared.instr.Operand.TheVariants.{Reg, Imm}
use Rattle.tb_sparc.specs.declared.instr.SparcInstr.{SparcInstr}
use Rattle.tb_sparc.specs.declared.instr.SparcInstr.TheVariants.{Call, Sethi, Branch, Alu, RdY, WrY, Jmpl, Load, Store, Trap}
use Rattle.tb_sparc.specs.SparcEvents.{SparcState, Going, Halted, events_of, sparc_machine}
use Rattle.tb_sparc.specs.Word.{word_of}

-- the state after so many steps with 64 data words, where these are the words, the groups of this MAC code start at
-- these words, and this is the input
abbrev pub state : List Instr → List ℕ → List ℕ → List ℕ → ℕ → SparcState
state code starts words input n = after (sparc_machine (coded 0 [] code) (record { words = words; starts = starts }) 64 input) n

-- one group, of an instruction that can fail
abbrev pub ran : List SparcInstr → List ℕ → ℕ → SparcState
ran is input n = state (I.Args 0 ∷ []) (0 ∷ []) (map word_of is) input n

abbrev pub stop_of : SparcState → Option Stop
stop_of (Halted s stop input es) = Some stop
stop_of (Going s input es) = None

abbrev pub pc_of : SparcState → ℕ
pc_of (Going s input es) = s.pc
pc_of (Halted s stop input es) = s.pc

abbrev pub register_of : ℕ → SparcState → ℕ
register_of r (Going s input es) = slice_index s.registers r
register_of r (Halted s stop input es) = slice_index s.registers r

abbrev pub codes_of : SparcState → Codes
codes_of (Going s input es) = s.codes
codes_of (Halted s stop input es) = s.codes

-- after so many steps this word is next and this register holds this
pub record Comes (is : List SparcInstr) (n word r w : ℕ) : Type 0 where
  pub goes : stop_of (ran is [] n) ≡ None
  pub next : pc_of (ran is [] n) ≡ word
  pub holds : register_of r (ran is [] n) ≡ w

-- after so many steps these are the condition codes: negative, zero, overflow, carry
abbrev pub codes : List SparcInstr → ℕ → Codes → Type 0
codes is n c = codes_of (ran is [] n) ≡ c

-- so many steps come to this stop
abbrev pub StopsWith : List SparcInstr → ℕ → Stop → Type 0
StopsWith is n stop = stop_of (ran is [] n) ≡ Some stop

-- so many steps with this input emit these events
abbrev pub Emits : List SparcInstr → List ℕ → ℕ → List Event → Type 0
Emits is input n es = events_of (ran is input n) ≡ es

abbrev pub nop : SparcInstr
nop = Sethi 0 0

-- a register gets a number of 13 bits, or its upper 22 and its lower 10 bits
abbrev pub set : ℕ → ℕ → SparcInstr
set rd n = Alu Or rd 0 (Imm (pos n))

abbrev pub set_long : ℕ → ℕ → ℕ → List SparcInstr
set_long rd high low = Sethi rd high ∷ Alu Or rd rd (Imm (pos low)) ∷ []

-- after a comparison of equal numbers, a branch to word 4 by this condition; then 1, 2 and 4 are added to register 16
abbrev pub branching : ℕ → Bool → List SparcInstr
branching k annul =
    Alu SubCc 0 0 (Imm (pos 0)) ∷ Branch k annul (pos 3) ∷ Alu Add 16 16 (Imm (pos 1)) ∷ Alu Add 16 16 (Imm (pos 2)) ∷ Alu Add 16 16 (Imm (pos 4)) ∷ nop ∷ []

-- a branch on equality, on inequality, always and never, without and with the annul bit
pub record BranchesAreDelayed : Type 0 where
  pub taken : Comes (branching 1 false) 4 5 16 5
  pub not_taken : Comes (branching 9 false) 4 4 16 3
  pub annulled_taken : Comes (branching 1 true) 4 5 16 5
  pub annulled_not_taken : Comes (branching 9 true) 2 3 16 0
  pub always : Comes (branching 8 false) 4 5 16 5
  pub annulled_always : Comes (branching 8 true) 2 4 16 0
  pub annulled_never : Comes (branching 0 true) 2 3 16 0
  pub backward : Comes (nop ∷ Alu Add 16 16 (Imm (pos 1)) ∷ Branch 8 false (negsuc 0) ∷ nop ∷ []) 6 3 16 2

-- a call to word 4, which returns behind the word after the call
abbrev pub calling : List SparcInstr
calling = nop ∷ Call (pos 3) ∷ nop ∷ Trap 0 ∷ Jmpl 0 15 (Imm (pos 8)) ∷ nop ∷ []

pub record CallReturns : Type 0 where
  pub link : Comes calling 3 4 15 4
  pub back : Comes calling 5 3 15 4
  pub end : StopsWith calling 6 Stop.End
  pub odd : StopsWith (Jmpl 0 0 (Imm (pos 2)) ∷ []) 1 (Stop.Stuck 0)
  pub behind : StopsWith (nop ∷ []) 2 (Stop.Stuck 4)
  pub no_instruction : stop_of (state (I.Args 0 ∷ []) (0 ∷ []) (0 ∷ []) [] 1) ≡ Some (Stop.Stuck 0)

-- the greatest and the least signed number in register 16, and -1
abbrev pub greatest : List SparcInstr
greatest = set_long 16 0x1fffff 0x3ff

abbrev pub least : List SparcInstr
least = Sethi 16 0x200000 ∷ nop ∷ []

abbrev pub minus_one : List SparcInstr
minus_one = Alu Or 16 0 (Imm (negsuc 0)) ∷ nop ∷ []

-- an operation on register 16 and a number
abbrev pub with_number : AluOp → ℕ → List SparcInstr
with_number op n = Alu op 17 16 (Imm (pos n)) ∷ []

pub record CodesAtTheEdges : Type 0 where
  pub add_overflows : codes (greatest ++ with_number AddCc 1) 3 (record { negative = true; zero = false; overflow = true; carry = false })
  pub add_carries : codes (minus_one ++ with_number AddCc 1) 3 (record { negative = false; zero = true; overflow = false; carry = true })
  pub add_both : codes (least ++ Alu AddCc 17 16 (Reg 16) ∷ []) 3 (record { negative = false; zero = true; overflow = true; carry = true })
  pub sub_borrows : codes (nop ∷ nop ∷ with_number SubCc 1) 3 (record { negative = true; zero = false; overflow = false; carry = true })
  pub sub_overflows : codes (least ++ with_number SubCc 1) 3 (record { negative = false; zero = false; overflow = true; carry = false })
  pub sub_equal : codes (nop ∷ nop ∷ with_number SubCc 0) 3 (record { negative = false; zero = true; overflow = false; carry = false })
  pub and_clears : codes (least ++ with_number SubCc 1 ++ Alu AndCc 17 16 (Reg 16) ∷ []) 4 (record { negative = true; zero = false; overflow = false; carry = false })
  pub or_clears : codes (minus_one ++ with_number AddCc 1 ++ Alu OrCc 17 0 (Reg 0) ∷ []) 4 (record { negative = false; zero = true; overflow = false; carry = false })

-- a tag in either operand overflows, and so does a sum that does not fit; without either there is no overflow
pub record TagsOverflow : Type 0 where
  pub first : codes (set 16 1 ∷ nop ∷ with_number TaddCc 4) 3 (record { negative = false; zero = false; overflow = true; carry = false })
  pub second : codes (set 16 4 ∷ nop ∷ with_number TaddCc 2) 3 (record { negative = false; zero = false; overflow = true; carry = false })
  pub fits : codes (set 16 4 ∷ nop ∷ with_number TaddCc 8) 3 (record { negative = false; zero = false; overflow = false; carry = false })
  pub outside : codes (set_long 16 0x1fffff 0x3fc ++ with_number TaddCc 4) 3 (record { negative = true; zero = false; overflow = true; carry = false })
  pub sub_tag : codes (set 16 5 ∷ nop ∷ with_number TsubCc 4) 3 (record { negative = false; zero = false; overflow = true; carry = false })
  pub sub_outside : codes (least ++ with_number TsubCc 4) 3 (record { negative = false; zero = false; overflow = true; carry = false })
  pub sub_fits : codes (set 16 4 ∷ nop ∷ with_number TsubCc 8) 3 (record { negative = true; zero = false; overflow = false; carry = true })
  pub sum : Comes (set 16 1 ∷ nop ∷ with_number TaddCc 4) 3 3 17 5

-- the high word in register 1, the low word in register 0 of the dividend
abbrev pub dividing : ℤ → ℤ → ℤ → List SparcInstr
dividing high low divisor = Alu Or 16 0 (Imm high) ∷ WrY 16 (Imm (pos 0)) ∷ Alu Or 17 0 (Imm low) ∷ Alu Sdiv 18 17 (Imm divisor) ∷ nop ∷ []

pub record ProductsAndQuotients : Type 0 where
  pub low : Comes (Alu Or 16 0 (Imm (negsuc 2)) ∷ Alu Smul 17 16 (Imm (pos 5)) ∷ RdY 18 ∷ []) 3 3 17 4294967281
  pub high : Comes (Alu Or 16 0 (Imm (negsuc 2)) ∷ Alu Smul 17 16 (Imm (pos 5)) ∷ RdY 18 ∷ []) 3 3 18 4294967295
  pub high_one : Comes (Sethi 16 64 ∷ Alu Smul 17 16 (Reg 16) ∷ RdY 18 ∷ []) 3 3 18 1
  pub long : Comes (dividing (pos 1) (pos 0) (pos 3)) 4 4 18 1431655765
  pub truncates : Comes (dividing (negsuc 0) (negsuc 6) (pos 2)) 4 4 18 4294967293
  pub by_zero : StopsWith (dividing (pos 0) (pos 1) (pos 0)) 4 (Stop.Stuck 12)
  pub outside : StopsWith (dividing (pos 1) (pos 0) (pos 1)) 4 (Stop.Stuck 12)
  pub xor_to_y : Comes (set 16 6 ∷ WrY 16 (Imm (pos 5)) ∷ RdY 17 ∷ []) 3 3 17 3
  pub right : Comes (least ++ with_number Srl 31) 3 3 17 1
  pub right_signed : Comes (least ++ with_number Sra 31) 3 3 17 4294967295
  pub left : Comes (set 16 3 ∷ nop ∷ with_number Sll 31) 3 3 17 2147483648
  pub count : Comes (set 16 33 ∷ nop ∷ Alu Sll 17 16 (Reg 16) ∷ []) 3 3 17 66
  pub difference : Comes (nop ∷ nop ∷ with_number Sub 1) 3 3 17 4294967295
  pub logic : Comes (set 16 12 ∷ Alu And 17 16 (Imm (pos 10)) ∷ Alu Xor 17 17 (Imm (pos 3)) ∷ []) 3 3 17 11
  pub zero : Comes (set 0 7 ∷ []) 1 1 0 0

-- a word is stored with its highest byte first; the last data word is there, and the word behind it is not
pub record DataWords : Type 0 where
  pub word : Comes (Store false 5 5 (Imm (pos 4)) ∷ Load false 16 5 (Imm (pos 4)) ∷ []) 2 2 16 0xC0000000
  pub high_byte : Comes (Store false 5 5 (Imm (pos 4)) ∷ Load true 16 5 (Imm (pos 4)) ∷ []) 2 2 16 0xC0
  pub byte : Comes (set 16 0x1ab ∷ Store true 16 5 (Imm (pos 5)) ∷ Load false 17 5 (Imm (pos 4)) ∷ []) 3 3 17 0x00ab0000
  pub last : Comes (Store false 5 14 (Imm (negsuc 3)) ∷ Load false 16 14 (Imm (negsuc 3)) ∷ []) 2 2 16 0xC0000000
  pub load_behind : StopsWith (Load false 16 14 (Imm (pos 0)) ∷ []) 1 (Stop.Stuck 0)
  pub load_before : StopsWith (Load true 16 5 (Imm (negsuc 0)) ∷ []) 1 (Stop.Stuck 0)
  pub load_code : StopsWith (Load false 16 0 (Imm (pos 0)) ∷ []) 1 (Stop.Stuck 0)
  pub load_odd : StopsWith (Load false 16 5 (Imm (pos 2)) ∷ []) 1 (Stop.Stuck 0)
  pub store_behind : StopsWith (Store true 16 14 (Imm (pos 0)) ∷ []) 1 (Stop.Stuck 0)
  pub store_odd : StopsWith (Store false 16 5 (Imm (pos 1)) ∷ []) 1 (Stop.Stuck 0)

-- the letter a, as a word
abbrev pub letter : List SparcInstr
letter = set_long 8 24 266

-- `ta 6` on so many words from a place in the data, behind a store to the word at the start of the data
abbrev pub clearing : ℕ → ℕ → List SparcInstr
clearing at n = Store false 5 5 (Imm (pos 0)) ∷ Alu Add 2 5 (Imm (pos at)) ∷ set 3 n ∷ Trap 6 ∷ Load false 16 5 (Imm (pos 0)) ∷ []

pub record Services : Type 0 where
  pub end : StopsWith (Trap 0 ∷ []) 1 Stop.End
  pub fails : StopsWith (set 2 3 ∷ Trap 1 ∷ []) 2 (Stop.Fail Cause.WrongType (spot 0))
  pub first_cause : StopsWith (set 2 1 ∷ Trap 1 ∷ []) 2 (Stop.Fail Cause.NotProcedure (spot 0))
  pub last_cause : StopsWith (set 2 8 ∷ Trap 1 ∷ []) 2 (Stop.Fail Cause.TooMany (spot 0))
  pub no_cause : StopsWith (set 2 9 ∷ Trap 1 ∷ []) 2 (Stop.Stuck 4)
  pub cause_zero : StopsWith (Trap 1 ∷ []) 1 (Stop.Stuck 0)
  pub no_place : stop_of (state (I.End ∷ []) (0 ∷ []) (map word_of (set 2 3 ∷ Trap 1 ∷ [])) [] 2) ≡ Some (Stop.Stuck 4)
  pub full : StopsWith (set 3 65 ∷ Trap 2 ∷ []) 2 (Stop.Full 0 64 65)
  pub not_full : StopsWith (set 3 64 ∷ Trap 2 ∷ []) 2 (Stop.Stuck 4)
  pub crossed : StopsWith (Alu Add 1 14 (Imm (pos 4)) ∷ Trap 2 ∷ []) 2 (Stop.Full 65 64 0)
  pub puts : Emits (letter ++ Trap 3 ∷ []) [] 3 (Event.Put 97 ∷ [])
  pub no_letter : StopsWith (set 8 97 ∷ Trap 3 ∷ []) 2 (Stop.Stuck 4)
  pub reads : Emits (Trap 5 ∷ Trap 4 ∷ Trap 4 ∷ Trap 4 ∷ Trap 0 ∷ []) (97 ∷ []) 5 (Event.Took (Taken.Byte 97) ∷ Event.Took Taken.End ∷ Event.Took Taken.End ∷ Event.End ∷ [])
  pub reads_end : Comes (Trap 4 ∷ []) 1 1 8 1282
  pub peeked : register_of 8 (ran (Trap 5 ∷ Trap 3 ∷ []) (97 ∷ []) 2) ≡ 24842
  pub clears : Comes (clearing 0 64) 5 5 16 0
  pub clears_others : Comes (clearing 4 63) 5 5 16 0xC0000000
  pub clears_none : Comes (clearing 256 0) 5 5 16 0xC0000000
  pub clears_too_many : StopsWith (clearing 4 64) 4 (Stop.Stuck 12)
  pub clears_odd : StopsWith (clearing 2 1) 4 (Stop.Stuck 12)

-- the groups of a `proc`, an `args`, a `return` and an `end`
abbrev pub groups : List SparcInstr → List ℕ → ℕ → SparcState
groups is starts n = state (I.Proc 7 ∷ I.Args 0 ∷ I.Return ∷ I.End ∷ []) starts (map word_of is) [] n

-- events come at the starts alone, once for each step there, and not where the word has an event of its own; a failure
-- is at the place of the last start, that of its own step included
pub record EventsAtStarts : Type 0 where
  pub at_starts : events_of (groups (nop ∷ nop ∷ nop ∷ nop ∷ nop ∷ nop ∷ []) (0 ∷ 2 ∷ 3 ∷ 5 ∷ []) 6) ≡ Event.Enter 7 ∷ Event.Back ∷ []
  pub own_event : events_of (groups (letter ++ Trap 3 ∷ []) (2 ∷ 3 ∷ 4 ∷ 5 ∷ []) 1) ≡ []
  pub put_alone : events_of (groups (Branch 8 true (pos 2) ∷ nop ∷ Sethi 8 24 ∷ Alu Or 8 8 (Imm (pos 266)) ∷ Trap 3 ∷ []) (0 ∷ 1 ∷ 4 ∷ 5 ∷ []) 4) ≡ Event.Enter 7 ∷ Event.Put 97 ∷ []
  pub clears_with_event : events_of (groups (set 3 0 ∷ Trap 6 ∷ []) (1 ∷ 2 ∷ 3 ∷ 4 ∷ []) 1) ≡ Event.Enter 7 ∷ []
  pub again : events_of (groups (Branch 8 true (pos 0) ∷ []) (0 ∷ 1 ∷ 2 ∷ 3 ∷ []) 3) ≡ Event.Enter 7 ∷ Event.Enter 7 ∷ Event.Enter 7 ∷ []
  pub skipped : events_of (groups (nop ∷ Branch 8 true (pos 2) ∷ nop ∷ nop ∷ []) (0 ∷ 1 ∷ 2 ∷ 3 ∷ []) 3) ≡ Event.Enter 7 ∷ []
  pub fails_there : stop_of (groups (set 2 2 ∷ nop ∷ Trap 1 ∷ []) (0 ∷ 2 ∷ 3 ∷ 4 ∷ []) 3) ≡ Some (Stop.Fail Cause.WrongArgs (spot 1))
  pub fails_later : stop_of (groups (set 2 2 ∷ nop ∷ Trap 1 ∷ []) (0 ∷ 1 ∷ 3 ∷ 4 ∷ []) 3) ≡ Some (Stop.Fail Cause.WrongArgs (spot 1))
  pub fails_without : stop_of (groups (set 2 2 ∷ nop ∷ Trap 1 ∷ []) (0 ∷ 3 ∷ 4 ∷ 5 ∷ []) 3) ≡ Some (Stop.Stuck 8)
