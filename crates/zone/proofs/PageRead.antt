-- A stretch that gives a name finds the page that a walk meets: what size, read and view answer, and which bytes a write changes.
use mathlib.Core.Path.{◌≡◌, refl, ap, sym, ◌∙◌}
use mathlib.Core.Bool.{Bool, true, false, cond}
use mathlib.Core.Option.{some}
use mathlib.Core.List.{List, [], ◌∷◌, ◌++◌, append-nil}
use Prim.Native.Nat.{ℕ, suc, ◌+◌, ◌-◌, ◌≤◌, ◌<◌, max}
use native.Mathlib.Omega.{arith}
use lib.Dec.{eqb}
use lib.ListN.{length, take, drop}
use lib.Seq.{sets, length-sets, sets-eq, length-take-le}
use borrow.Author.Tests.{eq-eqb, le-leb, lt-leb}
use Rattle.bigendian.specs.BigEndian.{overwrite}
use Rattle.block_type.specs.Limits.{page_header}
use Rattle.kinds.specs.Kinds.{Key, of_handle, of_name, Item, page, key_named, has_name, on_data}
use Rattle.calls.specs.Calls.{by_name, Call, size, read, write, view, Answer, told, shows}
use Rattle.calls.specs.Bays.{Bays, last, more, over, or_else, find_s, concat_s}
use Rattle.calls.specs.State.{Fixed, get, content, says}
use Rattle.calls.specs.Counted.{count}
use Rattle.calls.specs.Table.{refusal_of}
use Rattle.bay.specs.Bay.{Cell, free, held, items}
use Rattle.structure.specs.Structure.{Block, cell, fixed, len}
use Rattle.zone.specs.Group.{flat_bay, flatten}
use Rattle.zone.specs.Work.{Zone, facts, work, data_offset}
use Rattle.zone.specs.Call.{Result, result_of, in_line, replacing, outcome, number_of, call}
use Rattle.zone.specs.View.{view_start, view_length}
use Rattle.zone.specs.Promise.{Promise}
use Rattle.zone.specs.Claim.{PageCard, key_card, page_cards, pages_in, page_at}
use Rattle.zone.specs.PageSays.{Meets, met, further}
use Rattle.zone.proofs.Dropping.{many-flat}
use Rattle.zone.proofs.Keep.{Whole, len-line}
use Rattle.zone.proofs.Run.{Stored, stored-bays, number_is, call-worked, call-refused}
use Rattle.zone.proofs.PagesMet.{pages-walk, cards-few, page-found}
use Rattle.zone.proofs.PageNext.{met-occurs}
use Rattle.zone.proofs.PageNumbers.{met-many}
use Rattle.zone.proofs.PagePlaced.{passing}
use Rattle.zone.proofs.PageBytes.{Paged, page-in, at, place_is, stamp-small, line-edited, data-written}

get-append : (ok : Item → Bool) (a b : List Item) → get ok (a ++ b) ≡ or_else (get ok a) (get ok b)
get-append ok [] b = refl
get-append ok (e ∷ a) b = go (ok e) (get-append ok a b)
  where
    go : (t : Bool) → get ok (a ++ b) ≡ or_else (get ok a) (get ok b) → cond t (some e) (get ok (a ++ b)) ≡ or_else (cond t (some e) (get ok a)) (get ok b)
    go true q = refl
    go false q = q

find-flat : (ok : Item → Bool) (s : Bays (List Cell) Fixed) → find_s (λ (b : List Cell). get ok (items b)) s ≡ get ok (concat_s items s)
find-flat ok (last b) = refl
find-flat ok (more b x s) = ap (or_else (get ok (items b))) (find-flat ok s) ∙ sym (get-append ok (items b) (concat_s items s))

get-met : {x : PageCard} (es : List Item) → Meets x (page_cards es) → count (has_name x.name) es ≤ 1 → over (λ (e : Item). e.bytes) (get (has_name x.name) es) ≡ some x.bytes
get-met {x} (e ∷ es) m l = go e.key m l (λ k o. get-met es k o)
  where
    rest : (n : ℕ) (t : Bool) → eqb x.name n ≡ t → Meets x (page_cards es) → cond t (suc (count (has_name x.name) es)) (count (has_name x.name) es) ≤ 1
        → (count (has_name x.name) es ≤ 1 → over (λ (e : Item). e.bytes) (get (has_name x.name) es) ≡ some x.bytes) → over (λ (e : Item). e.bytes) (cond t (some e) (get (has_name x.name) es)) ≡ some x.bytes
    rest n true q m l f = absurd (omega (arith, cards-few x.name es, met-occurs m))
    rest n false q m l f = f l

    one : (p : PageCard) (n : ℕ) → p.name ≡ n → p.bytes ≡ e.bytes → Meets x (p ∷ page_cards es) → cond (eqb x.name n) (suc (count (has_name x.name) es)) (count (has_name x.name) es) ≤ 1
        → (Meets x (page_cards es) → count (has_name x.name) es ≤ 1 → over (λ (e : Item). e.bytes) (get (has_name x.name) es) ≡ some x.bytes) → over (λ (e : Item). e.bytes) (cond (eqb x.name n) (some e) (get (has_name x.name) es)) ≡ some x.bytes
    one p n a b met l f = rw (eq-eqb p.name n a) (ap some (sym b))
    one p n a b (further m) l f = rest n (eqb x.name n) refl m l (λ o. f m o)

    go : (k : Key) → Meets x (key_card k e.bytes ++ page_cards es) → cond (key_named x.name k) (suc (count (has_name x.name) es)) (count (has_name x.name) es) ≤ 1
        → (Meets x (page_cards es) → count (has_name x.name) es ≤ 1 → over (λ (e : Item). e.bytes) (get (has_name x.name) es) ≡ some x.bytes) → over (λ (e : Item). e.bytes) (cond (key_named x.name k) (some e) (get (has_name x.name) es)) ≡ some x.bytes
    go (of_handle h) m l f = f m l
    go (of_name n s) m l f = one (record { name = n; dirty = s.dirty; lock = s.lock; stamp = s.stamp; bytes = e.bytes }) n refl refl m l f
get-met {x = x} [] m l = elim m [ ]

-- the movable blocks of a line
abbrev held_in : List Block → List Item
held_in [] = []
held_in (cell (free n) ∷ l) = held_in l
held_in (cell (held e) ∷ l) = e ∷ held_in l
held_in (fixed d ∷ l) = held_in l

held-bay : (cs : List Cell) (r : List Block) → held_in (flat_bay cs r) ≡ items cs ++ held_in r
held-bay [] r = refl
held-bay (free n ∷ cs) r = held-bay cs r
held-bay (held e ∷ cs) r = ap (e ∷◌) (held-bay cs r)

held-strip : (s : Bays (List Cell) Fixed) → held_in (flatten s) ≡ concat_s items s
held-strip (last b) = held-bay b [] ∙ append-nil (items b)
held-strip (more b x s) = held-bay b (fixed x.bytes ∷ flatten s) ∙ ap (items b ++◌) (held-strip s)

get-there : (ok : Item → Bool) (e : Item) (post : List Block) → ok e ≡ true → (pre : List Block) → passing ok pre ≡ 0 → get ok (held_in (pre ++ (cell (held e) ∷ post))) ≡ some e
get-there ok e post y [] q = rw y
get-there ok e post y (cell (free n) ∷ pre) q = get-there ok e post y pre q
get-there ok e post y (fixed d ∷ pre) q = get-there ok e post y pre q
get-there ok e post y (cell (held i) ∷ pre) q = go (ok i) q (λ k. get-there ok e post y pre k)
  where
    go : (t : Bool) → cond t (suc (passing ok pre)) (passing ok pre) ≡ 0 → (passing ok pre ≡ 0 → get ok (held_in (pre ++ (cell (held e) ∷ post))) ≡ some e) → cond t (some i) (get ok (held_in (pre ++ (cell (held e) ∷ post)))) ≡ some e
    go true q f = absurd (omega arith)
    go false q f = f q

module _ (bs : List ℕ) (z : Zone) (w : Whole z) (s : Stored bs z) (x : PageCard) (m : Meets x (pages_in bs)) where
  data_is : content items (by_name x.name) z.bays ≡ some x.bytes
  data_is =
      ap (over (λ (e : Item). e.bytes)) (find-flat (has_name x.name) z.bays)
      ∙ get-met (concat_s items z.bays) (rw (pages-walk bs z w s) at m) (omega (arith, w.apart.apart x.name, many-flat (has_name x.name) items z.bays))

  -- ---- no byte changes

  still : replacing bs (in_line z) (in_line z) ≡ bs
  still =
      let a : len (in_line z) - len (in_line z) ≡ 0 = omega arith in
      let b : max (len (in_line z)) (len (in_line z)) ≡ z.len = omega (arith, len-line z w) in
      rw (a, b) (sym s.split)

  told-so : (c : Call) (a : Answer) → refusal_of c (facts true z) ≡ 0 → work c z ≡ says a z → call c bs ≡ result_of a bs
  told-so c a e q = call-worked bs z w s c e ∙ ap (outcome bs (in_line z)) q ∙ ap (result_of a) still

  pub size-told : call (size (by_name x.name)) bs ≡ result_of (told 0 (length x.bytes)) bs
  size-told = told-so (size (by_name x.name)) (told 0 (length x.bytes)) (rw data_is) (rw data_is)

  pub read_told : (i k : ℕ) (second : List ℕ) → i + k ≤ length x.bytes → k ≤ length second → call (read (by_name x.name) i k second) bs ≡ result_of (shows 0 (take k (drop i x.bytes) ++ drop k second)) bs
  read_told i k second l o =
      told-so (read (by_name x.name) i k second) (shows 0 (take k (drop i x.bytes) ++ drop k second)) (rw (data_is, le-leb (i + k) (length x.bytes) l, le-leb k (length second) o)) (rw data_is)

  -- ---- refused

  module _ (i k : ℕ) (l : length x.bytes < i + k) where
    pub read_past : (second : List ℕ) → call (read (by_name x.name) i k second) bs ≡ result_of (shows 8 second) bs
    read_past second = call-refused bs z w s (read (by_name x.name) i k second) 7 (rw (data_is, lt-leb (i + k) (length x.bytes) l))

    pub write-past : (second : List ℕ) → call (write (by_name x.name) i k second) bs ≡ result_of (shows 8 second) bs
    write-past second = call-refused bs z w s (write (by_name x.name) i k second) 7 (rw (data_is, lt-leb (i + k) (length x.bytes) l))

    view-eight : refusal_of (view (by_name x.name) i k) (facts true z) ≡ 8
    view-eight = rw (data_is, lt-leb (i + k) (length x.bytes) l)

    pub view-past : call (view (by_name x.name) i k) bs ≡ result_of (shows 0 []) bs
    view-past = call-refused bs z w s (view (by_name x.name) i k) 7 view-eight

    pub view-none : view_length (by_name x.name) i k bs ≡ 0
    view-none = ap (λ (n : ℕ). cond (eqb n 0) k 0) (number_is bs z w s (view (by_name x.name) i k) ∙ view-eight)

  module _ (i k : ℕ) (second : List ℕ) (l : i + k ≤ length x.bytes) (o : length second < k) where
    pub read_short : call (read (by_name x.name) i k second) bs ≡ result_of (shows 10 second) bs
    read_short = call-refused bs z w s (read (by_name x.name) i k second) 9 (rw (data_is, le-leb (i + k) (length x.bytes) l, lt-leb k (length second) o))

    pub write-short : call (write (by_name x.name) i k second) bs ≡ result_of (shows 10 second) bs
    write-short = call-refused bs z w s (write (by_name x.name) i k second) 9 (rw (data_is, le-leb (i + k) (length x.bytes) l, lt-leb k (length second) o))

  -- ---- a view

  module _ (i k : ℕ) (l : i + k ≤ length x.bytes) where
    view-passed : refusal_of (view (by_name x.name) i k) (facts true z) ≡ 0
    view-passed = rw (data_is, le-leb (i + k) (length x.bytes) l)

    view-zero : eqb (number_of (view (by_name x.name) i k) bs) 0 ≡ true
    view-zero = ap (λ (n : ℕ). eqb n 0) (number_is bs z w s (view (by_name x.name) i k) ∙ view-passed)

    pub view-told : call (view (by_name x.name) i k) bs ≡ result_of (shows 0 (take k (drop i x.bytes))) bs
    view-told = told-so (view (by_name x.name) i k) (shows 0 (take k (drop i x.bytes))) view-passed (rw data_is)

    pub view-place : (v : ℕ) → page_at x.name bs ≡ some v → view_start (by_name x.name) i k bs ≡ v + i
    view-place v q =
        let o : some (data_offset x.name z) ≡ some v = sym (page-found bs z w s x.name (met-many bs z w s m)) ∙ q in
        let e : data_offset x.name z ≡ v = cc in
        rw view-zero (ap (λ (y : Zone). data_offset x.name y + i) (stored-bays bs z w s) ∙ (rw e))

    pub view-long : view_length (by_name x.name) i k bs ≡ k
    view-long = rw view-zero

  -- ---- a write

  there : Paged x.name (flatten z.bays)
  there = page-in z w x.name (met-many bs z w s m)

  content-is : there.content ≡ x.bytes
  content-is =
      let a : some there.content ≡ some x.bytes =
      sym (ap (over (λ (e : Item). e.bytes)) (find-flat (has_name x.name) z.bays ∙ ap (get (has_name x.name)) (sym (held-strip z.bays) ∙ ap held_in there.is)
      ∙ get-there (has_name x.name) (page x.name there.status there.content) there.post (eq-eqb x.name x.name refl) there.pre there.before)) ∙ data_is in
      cc

  pub write-told : (v i k : ℕ) (second after : List ℕ) (a : Answer) → page_at x.name bs ≡ some v → i + k ≤ length x.bytes → k ≤ length second → Promise (write (by_name x.name) i k second) bs a after
      → (a ≡ shows 0 second) × (after ≡ overwrite bs (v + i) (take k second))
  write-told v i k second after a q l o p =
      let n : ℕ = x.name in
      let f : List ℕ → List ℕ = λ (d : List ℕ). sets d i (take k second) in
      let e : refusal_of (write (by_name n) i k second) (facts true z) ≡ 0 = rw (data_is, le-leb (i + k) (length x.bytes) l, le-leb k (length second) o) in
      let c = p ∙ call-worked bs z w s (write (by_name n) i k second) e in
      let g : some (data_offset n z) ≡ some v = sym (page-found bs z w s n (met-many bs z w s m)) ∙ q in
      let j : data_offset n z ≡ v = cc in
      let long : length (take k second) ≡ k = length-take-le k second o in
      let fits : i + length (take k second) ≤ length there.content = omega (arith, long, l, ap length content-is) in
      let r : at bs z w s n there + (page_header + i) ≡ v + i = omega (arith, j, place_is bs z w s n there) in (
        ap (λ (r : Result). r.answer) c,
        ap (λ (r : Result). r.bytes) c
            ∙ data-written bs z w s n there (work (write (by_name n) i k second) z).next there.status (f there.content) (line-edited bs z w s n there (on_data f)) refl (length-sets there.content i (take k second)) (stamp-small bs z w s n there)
            i (take k second) fits refl (sets-eq (take k second) there.content i fits) refl
            ∙ ap (λ (u : ℕ). overwrite bs u (take k second)) r,
      )
