-- What each answer says in numbers: 0 with its values written, or the refusal's number with nothing written.
use Rattle.rules.specs.declared.Allocation.{Allocation}
use Rattle.rules.specs.declared.Issued.{Issued}
use Rattle.rules.specs.declared.Refusal.{Refusal}
use Rattle.std.specs.Prelude.{ℕ, List, [], set, if◌then◌else◌, Ok, Err, Result, ⊤, Bool}
use Rattle.rules.specs.declared.Head.{Head}
use Rattle.rules.specs.Answers.{number}
use Rattle.telling.specs.Header.{write_head, write_allocation}

-- the number returned, and the header and the out slice after the call
pub record Told : Type 0 where
  pub number : ℕ
  pub header : List ℕ
  pub out : List ℕ

abbrev pub told : ℕ → List ℕ → List ℕ → Told
told n header out = record { number = n; header = header; out = out }

-- an accepted new writes the header alone
abbrev pub new_told : Result Head Refusal → List ℕ → Told
new_told (Ok head) header = told 0 (write_head head header) []
new_told (Err r) header = told (number r) header []

abbrev pub reply_told : Result ⊤ Refusal → Head → List ℕ → Told
reply_told (Ok tt) head header = told 0 (write_head head header) []
reply_told (Err r) head header = told (number r) header []

abbrev pub placing_told : Result Allocation Refusal → Head → List ℕ → List ℕ → Told
placing_told (Ok a) head header out = told 0 (write_head head header) (write_allocation a out)
placing_told (Err r) head header out = told (number r) header out

abbrev pub issued_told : Result Issued Refusal → List ℕ → List ℕ → Told
issued_told (Ok i) header out = told 0 (write_head i.head header) (write_allocation i.allocation out)
issued_told (Err r) header out = told (number r) header out

-- width, height
abbrev pub sides_told : Result (ℕ × ℕ) Refusal → List ℕ → List ℕ → Told
sides_told (Ok (width, height)) header out = told 0 header (set (set out 0 width) 1 height)
sides_told (Err r) header out = told (number r) header out

-- 1 for yes, 0 for no
abbrev pub flag_told : Result Bool Refusal → List ℕ → List ℕ → Told
flag_told (Ok t) header out = told 0 header (set out 0 (if t then 1 else 0))
flag_told (Err r) header out = told (number r) header out

abbrev pub figure_told : Result ℕ Refusal → List ℕ → List ℕ → Told
figure_told (Ok n) header out = told 0 header (set out 0 n)
figure_told (Err r) header out = told (number r) header out

-- how many bytes
abbrev pub written_told : Result ℕ Refusal → List ℕ → List ℕ → Told
written_told (Ok n) header out = told 0 header (set out 0 n)
written_told (Err r) header out = told (number r) header out
