-- The list theorem at one concrete list, and that its premise can be met: the definitions keep their own promises.
use mathlib.Core.Path.{◌≡◌, refl}
use mathlib.Core.Bool.{Bool, true, ◌&&◌}
use mathlib.Core.List.{List, [], ◌∷◌, map}
use Prim.Native.Nat.{ℕ, zero, suc}
use native.Mathlib.Omega.{arith}
use lib.ListN.{take, drop, replicate}
use lib.Dec.{ltb}
use borrow.Author.Tests.{ltb-true}
use Rattle.format.proofs.Bool.{and_left, and_right}
use Rattle.bigendian.specs.BigEndian.{Bytes, from_be, to_be}
use Rattle.memory.specs.Zeros.{all_zero}
use Rattle.format.specs.WellFormed.{well_formed, header_ok, zone_rules, block_rules, every, type_ok, size_ok, tile_ok, zeros_ok, second_ok, neighbours_ok, handles_ok, chain_from, type_of, size_of, handle_of, is_free, is_fixed, is_reloc, split_from, is_master, relocs, chain, offsets, master_at, page_size_ok, status_ok, names, distinct, name_of, status_of, is_page}
use Rattle.format.specs.Occurs.{occurs}
use Rattle.structure.specs.Structure.{encode_block, sizes, place_of, next_of, words, join, header, encode, decode_block, decode_zone, decode, handles_of, names_in}
use Rattle.calls.specs.Calls.{Call, Answer, Beside, alone, lends, part, of_page, beside, Given}
use Rattle.block_type.specs.Limits.{argument_range}
use Rattle.ledger.specs.Ledger.{run, initial}
use Rattle.zone.specs.Call.{call, initialize}
use Rattle.zone.specs.RigSheet.{answers_of, bytes_after}
use Rattle.zone.specs.Promise.{Promise}
use Rattle.zone.specs.Claim.{History, stop, then, Claim}
use Rattle.zone.specs.ReelB.{calls, numbers, recipe, listing}
use Rattle.zone.proofs.Theorem.{the-list}

promise-of : (c : Call) (bs : List ℕ) → Promise c bs (call c bs).answer (call c bs).bytes
promise-of c bs = refl

-- any bytes, 104 of them
abbrev before : List ℕ
before = replicate 104 9

abbrev fresh : List ℕ
fresh = (initialize 96 4 before).bytes

-- ---- what is written are bytes, by a test that computes

below : List ℕ → Bool
below [] = true
below (x ∷ xs) = ltb x 256 && below xs

bytes_of : (s : List ℕ) → below s ≡ true → Bytes s
unfolding below
bytes_of [] e i = omega arith
bytes_of (x ∷ xs) e zero = ltb-true x 256 (and_left _ _ e)
bytes_of (x ∷ xs) e (suc i) = bytes_of xs (and_right (ltb x 256) _ e) i

given_below : Beside → Bool
given_below alone = true
given_below (lends second) = below second
given_below part = true
given_below (of_page n p) = ltb n argument_range

given-of : (b : Beside) → given_below b ≡ true → Given b
unfolding given_below
given-of alone e = tt
given-of (lends second) e = bytes_of second e
given-of part e = tt
given-of (of_page n p) e = ltb-true n argument_range e

all_below : List Call → Bool
all_below [] = true
all_below (c ∷ cs) = given_below (beside c) && all_below cs

history-of : (cs : List Call) (bs : List ℕ) → all_below cs ≡ true → History bs cs (answers_of cs bs) (bytes_after cs bs)
unfolding all_below
history-of [] bs e = stop
history-of (c ∷ cs) bs e = then (given-of (beside c) (and_left _ _ e)) (promise-of c bs) (history-of cs (call c bs).bytes (and_right (given_below (beside c)) _ e))

reel-b-claim : Claim 104 96 4 fresh
reel-b-claim = the-list before fresh 96 4 (initialize 96 4 before).answer refl refl

reel-b-history : History fresh calls (answers_of calls fresh) (bytes_after calls fresh)
unfolding all_below given_below below
reel-b-history = history-of calls fresh refl

pub reel-b : answers_of calls fresh ≡ run calls (initial 104 96 4)
reel-b = reel-b-claim.answers calls (answers_of calls fresh) (bytes_after calls fresh) reel-b-history

pub ledger-numbers : map (λ (a : Answer). a.number) (run calls (initial 104 96 4)) ≡ numbers
ledger-numbers = refl

-- the eleventh answer: the recipe has slid, and its handle gives its bytes
pub recipe-stays : map (λ (a : Answer). a.bytes) (take 1 (drop 10 (run calls (initial 104 96 4)))) ≡ recipe ∷ []
recipe-stays = refl

-- the last answer: the roster
pub roster-listed : map (λ (a : Answer). a.bytes) (drop 34 (run calls (initial 104 96 4))) ≡ listing ∷ []
unfolding to_be
roster-listed = refl

-- in the bytes: the recipe's master before the profile grows, and after
pub recipe-slides : (master_at (bytes_after (take 9 calls) fresh) 24 ≡ 56) × (master_at (bytes_after (take 10 calls) fresh) 24 ≡ 64)
unfolding well_formed header_ok zone_rules block_rules every type_ok size_ok tile_ok zeros_ok second_ok page_size_ok status_ok names distinct neighbours_ok handles_ok chain_from type_of size_of handle_of name_of status_of is_free is_fixed is_reloc is_page split_from is_master relocs chain all_zero from_be encode header to_be words join encode_block decode_block decode decode_zone place_of next_of sizes handles_of names_in occurs offsets
recipe-slides = (refl, refl)
