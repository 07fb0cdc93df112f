-- The numbers of a plan, read back from its bytes by the definition that reads a table's fields.
use Prim.Native.Nat.{ℕ, zero, suc, ◌+◌, ◌*◌, ◌≤◌, ◌<◌}
use mathlib.Core.Path.{◌≡◌, refl, sym, ◌∙◌, ap}
use mathlib.Core.List.{List, [], ◌∷◌, ◌++◌}
use mathlib.Core.Logic.{dite}
use native.Mathlib.Omega.{arith}
use native.Mathlib.Decide.{dec_lt}
use native.Mathlib.Nat.{add-zero, zero-add, mul-suc, mul-le-mul_left}
use lib.ListN.{length, get_or, length-append}
use Rattle.lists.specs.Tab.{joined}
use Rattle.lists.proofs.Joined.{length-joined}
use Rattle.bits.specs.Bits.{bits_value}
use Rattle.bits.proofs.Laws.{bits_ahead, bits_behind}
use Rattle.sheet.specs.Fields.{width, Fit, none, more}
use Rattle.sheet.specs.Sheet.{field, header_bytes, processor_fields, resource_bytes, task_bytes, task_of, plan_bytes, ServesFit, TasksFit}
use Rattle.sheet.proofs.Words.{length_header, length-resources, length_task, length-tasks}
use Rattle.sheet.proofs.Read.{read_field, read_tab}

-- the bits from place `at` on say a task's numbers
pub record TaskRead (bytes : List ℕ) (at processor d1 section d2 : ℕ) : Type 0 where
  pub processor_bits : bits_value bytes at 5 ≡ processor
  pub d1_bits : bits_value bytes (at + 5) 20 ≡ d1
  pub section_bits : bits_value bytes (at + 25) 20 ≡ section
  pub d2_bits : bits_value bytes (at + 45) 20 ≡ d2
  pub spare_bits : bits_value bytes (at + 65) 7 ≡ 0

-- the bytes say a plan's numbers
pub record PlanRead (bytes : List ℕ) (n m s : ℕ) (serves processors d1s sections d2s : List ℕ) : Type 0 where
  pub size : length bytes ≡ 12 + 9 * n
  pub n_bits : bits_value bytes 0 7 ≡ n
  pub m_bits : bits_value bytes 7 5 ≡ m
  pub s_bits : bits_value bytes 12 4 ≡ s
  pub serves_bits : (r : ℕ) → r < 16 → bits_value bytes (16 + 5 * r) 5 ≡ get_or serves (r + 1) 0
  pub tasks : (k : ℕ) → k < n → TaskRead bytes (96 + 72 * k) (get_or processors k 0) (get_or d1s k 0) (get_or sections k 0) (get_or d2s k 0)

-- bits of lists of one length, one behind the other
bits_joined : (n k b : ℕ) (f : ℕ → List ℕ) (at w : ℕ) → ((i : ℕ) → length (f i) ≡ b) → k < n → at + w ≤ 8 * b
    → bits_value (joined n f) (8 * (b * k) + at) w ≡ bits_value (f k) at w
unfolding joined
bits_joined zero k b f at w size h fits = absurd (omega arith)
bits_joined (suc n) k b f at w size h fits =
    dite (dec_lt k n)
    (λ l.
    bits_ahead (joined n f) (f n) (8 * (b * k) + at) w (omega (arith, length-joined b f size n, mul-le-mul_left b l, mul-suc b k))
    ∙ bits_joined n k b f at w size l fits)
    (λ l.
    let e : k ≡ n = omega arith in
    rw e (bits_behind (joined n f) (f n) (b * n) at w (length-joined b f size n)))

-- the header's two bytes say its numbers
module _ (n m s : ℕ) (small_n : n < 128) (small-m : m < 32) (small-s : s < 16) where
  header_n : bits_value (header_bytes n m s) 0 7 ≡ n
  unfolding header_bytes width
  header_n = read_field [] (field 7 n) (field 5 m ∷ field 4 s ∷ []) 2 refl (more small_n (more small-m (more small-s none)))

  header_m : bits_value (header_bytes n m s) 7 5 ≡ m
  unfolding header_bytes width
  header_m = read_field (field 7 n ∷ []) (field 5 m) (field 4 s ∷ []) 2 refl (more small-m (more small-s none))

  header_s : bits_value (header_bytes n m s) 12 4 ≡ s
  unfolding header_bytes width
  header_s = read_field (field 7 n ∷ field 5 m ∷ []) (field 4 s) [] 2 refl (more small-s none)

-- a task's nine bytes say its numbers
task_read : (processor d1 section d2 : ℕ) → processor < 32 → d1 < 1048576 → section < 1048576 → d2 < 1048576 → TaskRead (task_bytes processor d1 section d2) 0 processor d1 section d2
unfolding task_bytes width
task_read p d1 s d2 small-p small-d1 small-s small-d2 =
    let z : Fit (field 7 0 ∷ []) = more {f = field 7 0} (omega arith) none in
    let d : Fit (field 20 d2 ∷ field 7 0 ∷ []) = more small-d2 z in
    let c : Fit (field 20 s ∷ field 20 d2 ∷ field 7 0 ∷ []) = more small-s d in
    let b : Fit (field 20 d1 ∷ field 20 s ∷ field 20 d2 ∷ field 7 0 ∷ []) = more small-d1 c in
    record {
      processor_bits = read_field [] (field 5 p) (field 20 d1 ∷ field 20 s ∷ field 20 d2 ∷ field 7 0 ∷ []) 9 refl (more small-p b);
      d1_bits = read_field (field 5 p ∷ []) (field 20 d1) (field 20 s ∷ field 20 d2 ∷ field 7 0 ∷ []) 9 refl b;
      section_bits = read_field (field 5 p ∷ field 20 d1 ∷ []) (field 20 s) (field 20 d2 ∷ field 7 0 ∷ []) 9 refl c;
      d2_bits = read_field (field 5 p ∷ field 20 d1 ∷ field 20 s ∷ []) (field 20 d2) (field 7 0 ∷ []) 9 refl d;
      spare_bits = read_field (field 5 p ∷ field 20 d1 ∷ field 20 s ∷ field 20 d2 ∷ []) (field 7 0) [] 9 refl z;
    }

-- the same bits at another place say the same numbers
moved : {bytes u : List ℕ} {processor d1 section d2 : ℕ} (at : ℕ) → ((place w : ℕ) → place + w ≤ 72 → bits_value bytes (at + place) w ≡ bits_value u place w)
    → TaskRead u 0 processor d1 section d2 → TaskRead bytes at processor d1 section d2
moved {bytes} at same t =
    record {
      processor_bits = ap (λ (i : ℕ). bits_value bytes i 5) (sym (add-zero at)) ∙ same 0 5 (omega arith) ∙ t.processor_bits;
      d1_bits = same 5 20 (omega arith) ∙ t.d1_bits;
      section_bits = same 25 20 (omega arith) ∙ t.section_bits;
      d2_bits = same 45 20 (omega arith) ∙ t.d2_bits;
      spare_bits = same 65 7 (omega arith) ∙ t.spare_bits;
    }

module _ (n m s : ℕ) (serves processors d1s sections d2s : List ℕ) where
  -- the bytes of the plan, and of the task in row k
  abbrev plan : List ℕ
  plan = plan_bytes n m s serves processors d1s sections d2s

  abbrev task : ℕ → List ℕ
  task = task_of processors d1s sections d2s

  -- "12 + 9n bytes"
  pub plan_size : length (plan_bytes n m s serves processors d1s sections d2s) ≡ 12 + 9 * n
  unfolding plan_bytes
  plan_size = simp length-append (omega (arith, length_header n m s, length-resources serves, length-tasks processors d1s sections d2s n))

  -- bits of the header
  in_header : (at w : ℕ) → at + w ≤ 16 → bits_value plan at w ≡ bits_value (header_bytes n m s) at w
  unfolding plan_bytes
  in_header at w h = bits_ahead (header_bytes n m s) (resource_bytes serves ++ joined n task) at w (omega (arith, length_header n m s))

  -- bits of the resources' fields
  in_resources : (at w : ℕ) → at + w ≤ 80 → bits_value plan (16 + at) w ≡ bits_value (resource_bytes serves) at w
  unfolding plan_bytes
  in_resources at w h =
      bits_behind (header_bytes n m s) (resource_bytes serves ++ joined n task) 2 at w (length_header n m s)
      ∙ bits_ahead (resource_bytes serves) (joined n task) at w (omega (arith, length-resources serves))

  -- bits of the task in row k
  in_task : (k : ℕ) → k < n → (place w : ℕ) → place + w ≤ 72 → bits_value plan (96 + 72 * k + place) w ≡ bits_value (task k) place w
  unfolding plan_bytes
  in_task k h place w fits =
      let e : 96 + 72 * k + place ≡ 16 + (80 + (8 * (9 * k) + place)) = omega arith in
      ap (λ (i : ℕ). bits_value plan i w) e
      ∙ bits_behind (header_bytes n m s) (resource_bytes serves ++ joined n task) 2 (80 + (8 * (9 * k) + place)) w (length_header n m s)
      ∙ bits_behind (resource_bytes serves) (joined n task) 10 (8 * (9 * k) + place) w (length-resources serves)
      ∙ bits_joined n k 9 task place w (length_task processors d1s sections d2s) h fits

  -- A plan's bytes say the plan's numbers, where each can be said in its bits.
  pub read_back : n < 128 → m < 32 → s < 16 → ServesFit serves → TasksFit n processors d1s sections d2s → PlanRead (plan_bytes n m s serves processors d1s sections d2s) n m s serves processors d1s sections d2s
  unfolding resource_bytes processor_fields task_of
  read_back small_n small-m small-s small-serves small-tasks =
      record {
        size = plan_size;
        n_bits = in_header 0 7 (omega arith) ∙ header_n n m s small_n small-m small-s;
        m_bits = in_header 7 5 (omega arith) ∙ header_m n m s small_n small-m small-s;
        s_bits = in_header 12 4 (omega arith) ∙ header_s n m s small_n small-m small-s;
        serves_bits = λ r h. in_resources (5 * r) 5 (omega arith) ∙ read_tab 16 5 10 (λ i. get_or serves (0 + i + 1) 0) refl (λ i l. small-serves (0 + i + 1) (omega arith)) r h ∙ ap (λ (i : ℕ). get_or serves (i + 1) 0) (zero-add r);
        tasks = λ k h. let t = small-tasks k h in moved (96 + 72 * k) (in_task k h) (task_read (get_or processors k 0) (get_or d1s k 0) (get_or sections k 0) (get_or d2s k 0) t.0 t.1 t.2 t.3);
      }
