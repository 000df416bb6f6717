-- Refusal numbers, and what each answer of a call says in numbers: 0 and its values where the call was accepted, the refusal's number alone
-- where not.
use Rattle.rules.specs.declared.Head.{Head}
use Rattle.rules.specs.declared.Allocation.{Allocation}
use Rattle.std.specs.Prelude.{ℕ, List, [], ◌∷◌, if◌then◌else◌, Ok, Err, Result, ⊤, Bool}
use Rattle.rules.specs.declared.Refusal.{Refusal}

-- "Refusal numbers"
abbrev pub number : Refusal → ℕ
number Refusal.Tables = 1
number Refusal.Side = 2
number Refusal.Options = 3
number Refusal.Small = 4
number Refusal.Large = 5
number Refusal.NoPlace = 6
number Refusal.Filler = 7
-- T-08: not given any more
number Refusal.Items = 8
number Refusal.Unknown = 9
number Refusal.Stale = 10
number Refusal.Unheld = 11
number Refusal.Shrink = 12
number Refusal.NoAtlas = 13
number Refusal.Malformed = 14
-- T-05: not given any more
number Refusal.Long = 15
-- T-01
number Refusal.Broken = 16
number Refusal.Version = 17
number Refusal.Buffer = 18
-- T-02
number Refusal.Full = 19
number Refusal.NotHeld = 20
number Refusal.List = 21
-- T-04
number Refusal.Wide = 22
number Refusal.Tall = 23
-- T-07
number Refusal.Output = 24

abbrev pub refused : Refusal → List ℕ
refused r = number r ∷ []

abbrev pub made_says : Result Head Refusal → List ℕ
made_says (Ok h) = 0 ∷ []
made_says (Err r) = refused r

abbrev pub reply_says : Result ⊤ Refusal → List ℕ
reply_says (Ok tt) = 0 ∷ []
reply_says (Err r) = refused r

abbrev pub placing_says : Result Allocation Refusal → List ℕ
placing_says (Ok a) = 0 ∷ a.id ∷ a.rectangle.left ∷ a.rectangle.top ∷ a.rectangle.right ∷ a.rectangle.bottom ∷ []
placing_says (Err r) = refused r

abbrev pub sides_says : Result (ℕ × ℕ) Refusal → List ℕ
sides_says (Ok (w, h)) = 0 ∷ w ∷ h ∷ []
sides_says (Err r) = refused r

abbrev pub flag_says : Result Bool Refusal → List ℕ
flag_says (Ok b) = 0 ∷ (if b then 1 else 0) ∷ []
flag_says (Err r) = refused r

abbrev pub figure_says : Result ℕ Refusal → List ℕ
figure_says (Ok n) = 0 ∷ n ∷ []
figure_says (Err r) = refused r

-- the answer of a write, and of a picture: how many bytes
abbrev pub written_says : Result ℕ Refusal → List ℕ
written_says (Ok n) = 0 ∷ n ∷ []
written_says (Err r) = refused r

-- T-05: the answer of a feed, or of the end: how many bytes of lines
abbrev pub lines_says : Result ℕ Refusal → List ℕ
lines_says (Ok n) = 0 ∷ n ∷ []
lines_says (Err r) = refused r
