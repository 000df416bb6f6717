-- "A record is a u16 length (of what follows it), a u16 kind, a payload, all little-endian": what a trace, or what is left of it from an offset on,
-- starts with. It starts with a whole record, or it is malformed, and never both; the test `malformed` tells which.
use Prim.Native.Nat.{ℕ, suc, ◌+◌, ◌-◌, ◌*◌, ◌≤◌, ◌<◌}
use mathlib.Core.Bool.{Bool, true, false}
use mathlib.Core.Path.{◌≡◌, refl, sym, ap, ◌∙◌, subst}
use mathlib.Core.Logic.{◌≢◌, ◌⊎◌, inl, inr, ⊎_elim}
use mathlib.Core.List.{List, [], ◌∷◌, ◌++◌}
use native.Mathlib.Omega.{arith}
use native.Mathlib.Decide.{ℕ_discrete, dec_lt}
use borrow.Author.Tests.{ne_eqb}
use lib.ListN.{length, get_or, take, drop, take-append-drop, length-append}
use lib.Seq.{length-take-le, take_at, drop_at}
use Rattle.rules.specs.Limits.{offset_most}
use Rattle.rules.specs.History.{Call}
use Rattle.rules.specs.Trace.{u16_at, u32_at, i32_at, length_of, misframed, malformed, payload}
use Rattle.laws.proofs.Tests.Tells.{Tells, tells_ltb, tells_eqb, tells_not, tells_or, tells_map}

-- ---- kinds

-- "Kinds and lengths", and the call that a record of that payload is: `Kind p kind long call`
pub data Kind (p : List ℕ) : ℕ → ℕ → Call → Type 0 where
  -- "1 new (width, height, two alignments, columns, all i32 here and below, vertical as a byte), 23"
  new : Kind p 1 23 (Call.new (i32_at p 0) (i32_at p 4) (i32_at p 8) (i32_at p 12) (i32_at p 16) (get_or p 20 0))
  -- "2 allocate (width, height), 10"
  allocate : Kind p 2 10 (Call.allocate (i32_at p 0) (i32_at p 4))
  -- "3 deallocate (u32 id), 6"
  deallocate : Kind p 3 6 (Call.deallocate (u32_at p 0))
  -- "4 clear, 2"
  clear : Kind p 4 2 Call.clear
  -- "5 grow (width, height), 10"
  grow : Kind p 5 10 (Call.grow (i32_at p 0) (i32_at p 4))
  -- "6 report, 2"
  report : Kind p 6 2 Call.read

pub kind_length : {p : List ℕ} {kind long : ℕ} {c : Call} → Kind p kind long c → length_of kind ≡ long
unfolding length_of
kind_length Kind.new = refl
kind_length Kind.allocate = refl
kind_length Kind.deallocate = refl
kind_length Kind.clear = refl
kind_length Kind.grow = refl
kind_length Kind.report = refl

pub kind_least : {p : List ℕ} {kind long : ℕ} {c : Call} → Kind p kind long c → 2 ≤ long
kind_least Kind.new = omega arith
kind_least Kind.allocate = omega arith
kind_least Kind.deallocate = omega arith
kind_least Kind.clear = omega arith
kind_least Kind.grow = omega arith
kind_least Kind.report = omega arith

abbrev Known : List ℕ → ℕ → Type 0
Known p kind = (c : Call) × Kind p kind (length_of kind) c

-- a kind is one of the six, or has no length
kind_known : (p : List ℕ) (kind : ℕ) → Known p kind ⊎ (length_of kind ≡ 0)
unfolding length_of
kind_known p kind = elim (ℕ_discrete kind 1) [
  | yes e ↦ inl (subst (Known p) (sym e) (_, Kind.new))
  | no n1 ↦ elim (ℕ_discrete kind 2) [
    | yes e ↦ inl (subst (Known p) (sym e) (_, Kind.allocate))
    | no n2 ↦ elim (ℕ_discrete kind 3) [
      | yes e ↦ inl (subst (Known p) (sym e) (_, Kind.deallocate))
      | no n3 ↦ elim (ℕ_discrete kind 4) [
        | yes e ↦ inl (subst (Known p) (sym e) (_, Kind.clear))
        | no n4 ↦ elim (ℕ_discrete kind 5) [
          | yes e ↦ inl (subst (Known p) (sym e) (_, Kind.grow))
          | no n5 ↦ elim (ℕ_discrete kind 6) [
            | yes e ↦ inl (subst (Known p) (sym e) (_, Kind.report))
            | no n6 ↦ inr (simp (ne_eqb kind 1 n1, ne_eqb kind 2 n2, ne_eqb kind 3 n3, ne_eqb kind 4 n4, ne_eqb kind 5 n5, ne_eqb kind 6 n6))
          ]
        ]
      ]
    ]
  ]
]

-- ---- malformed

-- "14 .. as for an unknown kind, a wrong length or a cut record"; T-05: "a record that would end past that is 14"
pub data Malformed (offset : ℕ) (left : List ℕ) : Type 0 where
  unknown_kind : ((p : List ℕ) (long : ℕ) (c : Call) → Kind p (u16_at left 2) long c → ⊥) → Malformed offset left
  wrong_length : (p : List ℕ) (long : ℕ) (c : Call) → Kind p (u16_at left 2) long c → u16_at left 0 ≢ long → Malformed offset left
  past_offset : offset_most < offset + 2 + u16_at left 0 → Malformed offset left
  -- before its length and kind end, or before what the length says
  cut_record : (length left < 4) ⊎ (length left < 2 + u16_at left 0) → Malformed offset left

-- what the first four bytes tell
abbrev Misframed : ℕ → List ℕ → Type 0
Misframed offset left =
    ((length_of (u16_at left 2) ≡ 0) ⊎ (u16_at left 0 ≢ length_of (u16_at left 2))) ⊎ (offset_most < offset + 2 + u16_at left 0)

misframed_tells : (offset : ℕ) (left : List ℕ) → Tells (misframed offset left) (Misframed offset left)
unfolding misframed
misframed_tells offset left =
    tells_or _ _ (tells_or _ _ (tells_eqb (length_of (u16_at left 2)) 0) (tells_not _ (tells_eqb (u16_at left 0) (length_of (u16_at left 2)))))
    (tells_ltb offset_most (offset + 2 + u16_at left 0))

pub malformed_tells : (offset : ℕ) (left : List ℕ) → Tells (malformed offset left) (Malformed offset left)
unfolding malformed
malformed_tells offset left = tells_map
    (tells_or _ _ (tells_or _ _ (tells_ltb (length left) 4) (misframed_tells offset left)) (tells_ltb (length left) (2 + u16_at left 0)))
    (⊎_elim (⊎_elim (λ h. Malformed.cut_record (inl h)) (⊎_elim (⊎_elim unknown wrong) Malformed.past_offset)) (λ h. Malformed.cut_record (inr h)))
    back
  where
    unknown : length_of (u16_at left 2) ≡ 0 → Malformed offset left
    unknown e = Malformed.unknown_kind (λ p long c k. omega (arith, kind_least k, kind_length k))

    wrong : u16_at left 0 ≢ length_of (u16_at left 2) → Malformed offset left
    wrong ne = ⊎_elim (λ (k : Known [] (u16_at left 2)). Malformed.wrong_length [] _ k.0 k.1 ne) unknown (kind_known [] (u16_at left 2))

    back : Malformed offset left → ((length left < 4) ⊎ Misframed offset left) ⊎ (length left < 2 + u16_at left 0)
    back (Malformed.unknown_kind none) =
        ⊎_elim (λ (k : Known [] (u16_at left 2)). absurd (none [] _ k.0 k.1)) (λ e. inl (inr (inl (inl e)))) (kind_known [] (u16_at left 2))
    back (Malformed.wrong_length p long c k ne) = inl (inr (inl (inr (λ e. ne (e ∙ kind_length k)))))
    back (Malformed.past_offset h) = inl (inr (inr h))
    back (Malformed.cut_record (inl h)) = inl (inl h)
    back (Malformed.cut_record (inr h)) = inr h

-- ---- whole

-- `Begins offset left call next rest`: the bytes left from offset on are those of one whole record, the call that it is, and then, from next on, the
-- rest
pub record Begins (offset : ℕ) (left : List ℕ) (call : Call) (next : ℕ) (rest : List ℕ) : Type 0 where
  pub low : ℕ
  pub high : ℕ
  pub kind_low : ℕ
  pub kind_high : ℕ
  pub part : List ℕ
  pub bytes : left ≡ low ∷ high ∷ kind_low ∷ kind_high ∷ (part ++ rest)
  pub follows : low + 256 * high ≡ 2 + length part
  pub known : Kind part (kind_low + 256 * kind_high) (low + 256 * high) call
  pub ends : next ≡ offset + 2 + (low + 256 * high)
  pub within : next ≤ offset_most

-- some call and some rest
abbrev pub Beginning : ℕ → List ℕ → Type 0
Beginning offset left = (call : Call) × (next : ℕ) × (rest : List ℕ) × Begins offset left call next rest

whole_or : (offset : ℕ) (left : List ℕ) → (Malformed offset left → ⊥) → Beginning offset left
whole_or offset [] n = absurd (n (Malformed.cut_record (inl (omega arith))))
whole_or offset (a ∷ []) n = absurd (n (Malformed.cut_record (inl (omega arith))))
whole_or offset (a ∷ b ∷ []) n = absurd (n (Malformed.cut_record (inl (omega arith))))
whole_or offset (a ∷ b ∷ c ∷ []) n = absurd (n (Malformed.cut_record (inl (omega arith))))
whole_or offset (a ∷ b ∷ c ∷ d ∷ xs) n =
    let left : List ℕ = a ∷ b ∷ c ∷ d ∷ xs in
    let long : ℕ = a + 256 * b in
    let kind : ℕ = c + 256 * d in
    let p : List ℕ = take (long - 2) xs in
    let within : offset + 2 + long ≤ offset_most = elim (dec_lt offset_most (offset + 2 + long)) [
      | yes h ↦ absurd (n (Malformed.past_offset h))
      | no h ↦ omega arith
    ] in
    ⊎_elim
    (λ (k : Known p kind). elim (ℕ_discrete long (length_of kind)) [
      | yes e ↦ elim (dec_lt (length left) (2 + long)) [
        | yes h ↦ absurd (n (Malformed.cut_record (inr h)))
        | no h ↦
            let least : 2 ≤ long = omega (arith, kind_least k.1, e) in (
              k.0,
              offset + 2 + long,
              drop (long - 2) xs,
              record {
                low = a;
                high = b;
                kind_low = c;
                kind_high = d;
                part = p;
                bytes = ap (λ (ys : List ℕ). a ∷ b ∷ c ∷ d ∷ ys) (sym (take-append-drop (long - 2) xs));
                follows = omega (arith, length-take-le (long - 2) xs (omega arith));
                known = subst (λ (m : ℕ). Kind p kind m k.0) (sym e) k.1;
                ends = refl;
                within = within;
              },
            )
      ]
      | no ne ↦ absurd (n (Malformed.wrong_length p _ k.0 k.1 ne))
    ])
    (λ e. absurd (n (Malformed.unknown_kind (λ q long' c' k. omega (arith, kind_least k, kind_length k)))))
    (kind_known p kind)

-- what is not malformed starts with a whole record
pub begins : (offset : ℕ) (left : List ℕ) → malformed offset left ≡ false → Beginning offset left
begins offset left e =
    whole_or offset left (λ m. let z : ◌≡◌ {A = ℕ} 0 1 = cc ((malformed_tells offset left).shown m) in omega arith)

-- what starts with a whole record is not malformed, and its kind, its payload and what follows it are those that the rules take
pub record Taken (offset : ℕ) (left : List ℕ) (call : Call) (next : ℕ) (rest : List ℕ) : Type 0 where
  pub well : malformed offset left ≡ false
  pub asked : Kind (payload left) (u16_at left 2) (u16_at left 0) call
  pub place : next ≡ offset + 2 + u16_at left 0
  pub after : drop (2 + u16_at left 0) left ≡ rest
  pub longer : length left ≡ 2 + u16_at left 0 + length rest

-- four bytes, a payload and the rest
taken : (offset a b c d : ℕ) (p rest : List ℕ) (call : Call) → a + 256 * b ≡ 2 + length p → Kind p (c + 256 * d) (a + 256 * b) call
    → offset + 2 + (a + 256 * b) ≤ offset_most → Taken offset (a ∷ b ∷ c ∷ d ∷ (p ++ rest)) call (offset + 2 + (a + 256 * b)) rest
taken offset a b c d p rest call follows known within =
    let left : List ℕ = a ∷ b ∷ c ∷ d ∷ (p ++ rest) in
    let size : length left ≡ 4 + length p + length rest = omega (arith, length-append p rest) in
    record {
      well = not_true_false (malformed offset left) (λ e. not_both ((malformed_tells offset left).holds e));
      asked = subst (λ (q : List ℕ). Kind q (c + 256 * d) (a + 256 * b) call) (sym (take_at p rest (a + 256 * b - 2) (omega arith))) known;
      place = refl;
      after = ap (λ (n : ℕ). drop n left) (let e : 2 + (a + 256 * b) ≡ suc (suc (suc (suc (length p)))) = omega arith in e)
          ∙ drop_at p rest (length p) refl;
      longer = omega (arith, size);
    }
  where
    not_true_false : (t : Bool) → (t ≡ true → ⊥) → t ≡ false
    not_true_false true n = absurd (n refl)
    not_true_false false n = refl

    not_both : Malformed offset (a ∷ b ∷ c ∷ d ∷ (p ++ rest)) → ⊥
    not_both (Malformed.unknown_kind none) = none p _ call known
    not_both (Malformed.wrong_length q long c' k ne) = ne (sym (kind_length known) ∙ kind_length k)
    not_both (Malformed.past_offset h) = omega arith
    not_both (Malformed.cut_record (inl h)) = omega (arith, length-append p rest)
    not_both (Malformed.cut_record (inr h)) = omega (arith, length-append p rest)

pub begins_taken : {offset : ℕ} {left : List ℕ} {call : Call} {next : ℕ} {rest : List ℕ} → Begins offset left call next rest
    → Taken offset left call next rest
begins_taken {offset} {left} {call} {next} {rest} b = subst (λ (xs : List ℕ). Taken offset xs call next rest) (sym b.bytes)
    (subst (λ (n : ℕ). Taken offset (b.low ∷ b.high ∷ b.kind_low ∷ b.kind_high ∷ (b.part ++ rest)) call n rest) (sym b.ends)
    (taken offset b.low b.high b.kind_low b.kind_high b.part rest call b.follows b.known (omega (arith, b.ends, b.within))))

-- never both
pub begins_well : {offset : ℕ} {left : List ℕ} {call : Call} {next : ℕ} {rest : List ℕ} → Begins offset left call next rest
    → Malformed offset left → ⊥
begins_well {offset} {left} b m = let z : ◌≡◌ {A = ℕ} 0 1 = cc ((malformed_tells offset left).shown m, (begins_taken b).well) in omega arith
