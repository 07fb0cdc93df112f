-- The parts of a plan as words of at most 40 bits.
use Prim.Native.Nat.{ℕ, ◌+◌, ◌-◌, ◌*◌, ◌/◌, ◌%◌, ◌^◌, ◌≤◌, ◌<◌}
use mathlib.Core.Path.{◌≡◌, ◌∙◌, ap}
use mathlib.Core.List.{List, [], ◌∷◌, ◌++◌}
use native.Mathlib.Omega.{arith}
use native.Mathlib.Numerals.{add-one}
use native.Mathlib.Nat.{add_assoc}
use lib.ListN.{length, get_or, take, drop, length-drop}
use lib.Seq.{length-take-le}
use lib.Pow.{pow_mono}
use Rattle.std.proofs.lemmas.List.{get_or-take, get_or-drop}
use Rattle.lists.specs.Tab.{tab, joined}
use Rattle.lists.proofs.Tab.{tab-append}
use Rattle.lists.proofs.Joined.{length-joined}
use Rattle.sheet.specs.Fields.{width, behind, Fit, bytes_of, packed}
use Rattle.sheet.specs.Sheet.{field, header_bytes, processor_fields, resource_bytes, task_bytes, task_of, ServesFit}
use Rattle.sheet.proofs.Fields.{behind-append, behind_ahead, behind-lt, width_tab, fit_tab}
use Rattle.sheet.proofs.Bytes.{length-bytes, bytes-append}

-- the header is one word of 16 bits
pub header_word : (n m s : ℕ) → header_bytes n m s ≡ bytes_of 2 (n * 512 + m * 16 + s)
unfolding header_bytes packed width behind
header_word n m s =
    let e : ((0 * 2 ^ 7 + n) * 2 ^ 5 + m) * 2 ^ 4 + s ≡ n * 512 + m * 16 + s = omega arith in
    ap (bytes_of 2) e

module _ (serves : List ℕ) where
  -- one field more
  pub processors_more : (ahead i : ℕ) → behind 0 (processor_fields serves ahead (i + 1)) ≡ behind 0 (processor_fields serves ahead i) * 32 + get_or serves (ahead + i + 1) 0
  unfolding processor_fields tab behind
  processors_more ahead i = rw (add-one i) (behind-append 0 (processor_fields serves ahead i) (field 5 (get_or serves (ahead + i + 1) 0) ∷ []))

  -- the eight of them from place `ahead + 1` on
  pub length_eight : (ahead : ℕ) → length serves ≡ 17 → ahead ≤ 8 → length (take (ahead + 9 - (ahead + 1)) (drop (ahead + 1) serves)) ≡ 8
  length_eight ahead n h =
      let d = length-drop (ahead + 1) serves in
      let k : ahead + 9 - (ahead + 1) ≡ 8 = omega arith in
      length-take-le (ahead + 9 - (ahead + 1)) (drop (ahead + 1) serves) (omega arith) ∙ k

  pub one_of_eight : (ahead i : ℕ) → i < 8 → get_or (take (ahead + 9 - (ahead + 1)) (drop (ahead + 1) serves)) i 0 ≡ get_or serves (ahead + i + 1) 0
  one_of_eight ahead i h =
      let e : ahead + 1 + i ≡ ahead + i + 1 = omega arith in
      get_or-take (ahead + 9 - (ahead + 1)) (drop (ahead + 1) serves) i 0 (omega arith) ∙ get_or-drop (ahead + 1) serves i 0 ∙ ap (λ (k : ℕ). get_or serves k 0) e

  -- 5 bits for each
  width_processors : (ahead count : ℕ) → width (processor_fields serves ahead count) ≡ 5 * count
  unfolding processor_fields
  width_processors ahead count = width_tab count 5 (λ r. get_or serves (ahead + r + 1) 0)

  -- so many fields ahead of the others
  processors-append : (ahead m n : ℕ) → processor_fields serves ahead (m + n) ≡ processor_fields serves ahead m ++ processor_fields serves (ahead + m) n
  unfolding processor_fields
  processors-append ahead m n = simp (tab-append, add_assoc)

  module _ (small : ServesFit serves) where
    -- each has its 5 bits
    processors_fit : (ahead count : ℕ) → ahead + count ≤ 16 → Fit (processor_fields serves ahead count)
    unfolding processor_fields
    processors_fit ahead count h = fit_tab count 5 (λ r. get_or serves (ahead + r + 1) 0) (λ r l. small (ahead + r + 1) (omega arith))

    -- at most eight of them say a number of 40 bits
    pub processors-lt : (ahead count : ℕ) → ahead + count ≤ 16 → count ≤ 8 → behind 0 (processor_fields serves ahead count) < 256 ^ 5
    processors-lt ahead count h k =
        let l : behind 0 (processor_fields serves ahead count) < 2 ^ width (processor_fields serves ahead count) = behind-lt (processors_fit ahead count h) in
        let p : 2 ^ width (processor_fields serves ahead count) ≤ 2 ^ 40 = pow_mono {j = 40} (omega (arith, width_processors ahead count)) in
        omega arith

    -- 16 fields of 5 bits are two words of 40
    pub resource_words : resource_bytes serves ≡ bytes_of 5 (behind 0 (processor_fields serves 0 8)) ++ bytes_of 5 (behind 0 (processor_fields serves 8 8))
    unfolding resource_bytes packed
    resource_words =
        let a = processor_fields serves 0 8 in
        let b = processor_fields serves 8 8 in
        let e : behind 0 (processor_fields serves 0 16) ≡ behind 0 a * 256 ^ 5 + behind 0 b = ap (behind 0) (processors-append 0 8 8) ∙ behind-append 0 a b ∙ rw (behind_ahead (behind 0 a) b, width_processors 8 8) in
        rw (width_processors 0 16, e) (bytes-append 5 5 (behind 0 a) (behind 0 b) (processors-lt 8 8 (omega arith) (omega arith)))

-- 72 bits are a word of 40 and one of 32
pub task_words : (processor d1 section d2 : ℕ) → d2 < 1048576
    → task_bytes processor d1 section d2 ≡ bytes_of 5 ((processor * 1048576 + d1) * 32768 + section / 32) ++ bytes_of 4 ((section % 32 * 1048576 + d2) * 128)
unfolding task_bytes packed width behind
task_words processor d1 section d2 h =
    let a = (processor * 1048576 + d1) * 32768 + section / 32 in
    let b = (section % 32 * 1048576 + d2) * 128 in
    let e : ((((0 * 2 ^ 5 + processor) * 2 ^ 20 + d1) * 2 ^ 20 + section) * 2 ^ 20 + d2) * 2 ^ 7 + 0 ≡ a * 256 ^ 4 + b = omega arith in
    ap (bytes_of 9) e ∙ bytes-append 5 4 a b (omega arith)

-- the lengths of the parts
pub length_header : (n m s : ℕ) → length (header_bytes n m s) ≡ 2
length_header n m s = rw (header_word n m s) (length-bytes 2 (n * 512 + m * 16 + s))

pub length-resources : (serves : List ℕ) → length (resource_bytes serves) ≡ 10
unfolding resource_bytes packed
length-resources serves = rw (width_processors serves 0 16) (length-bytes 10 (behind 0 (processor_fields serves 0 16)))

module _ (processors d1s sections d2s : List ℕ) where
  pub length_task : (k : ℕ) → length (task_of processors d1s sections d2s k) ≡ 9
  unfolding task_of task_bytes packed width
  length_task k = length-bytes 9 _

  pub length-tasks : (n : ℕ) → length (joined n (task_of processors d1s sections d2s)) ≡ 9 * n
  length-tasks n = length-joined 9 (task_of processors d1s sections d2s) length_task n
