-- T-01: "It covers only bytes that some build's write made". The builds whose rules differ, in their order, and what differs, as functions of
-- the build. A rule that differs takes the build; the contracts of the code name the present one.
use Rattle.std.specs.Prelude.{ℕ, Bool, true, false}

pub data Build : Type 0 where
  -- T-01: the first that writes files
  keeping : Build
  -- T-02: the first with the list
  holding : Build
  -- T-04: the first that says which side was too large
  naming : Build
  -- T-06: the first that gives every ratio above 32 at least 4 buckets
  dividing : Build
  -- T-08: the first that puts an emptied bucket back in service
  renewing : Build

abbrev pub present : Build
present = Build.renewing

-- "u16 version 1": the version that a build writes
abbrev pub version_of : Build → ℕ
version_of Build.keeping = 1
version_of Build.holding = 1
version_of Build.naming = 1
version_of Build.dividing = 1
version_of Build.renewing = 1

-- T-02, "bytes written by a build without the list": whether it has one
abbrev pub has_list : Build → Bool
has_list Build.keeping = false
has_list Build.holding = true
has_list Build.naming = true
has_list Build.dividing = true
has_list Build.renewing = true

-- T-04, "the two comparisons of aligned sides get numbers of their own": whether they have; before, both were 5
abbrev pub names_side : Build → Bool
names_side Build.keeping = false
names_side Build.holding = false
names_side Build.naming = true
names_side Build.dividing = true
names_side Build.renewing = true

-- T-06, "every ratio above 32 gives at least 4 buckets": the least that it gives; before, 33 to 47 gave 1
abbrev pub least_count : Build → ℕ
least_count Build.keeping = 1
least_count Build.holding = 1
least_count Build.naming = 1
least_count Build.dividing = 4
least_count Build.renewing = 4

-- T-08, "When a bucket's reference count reaches 0 its item count becomes 0 and its generation rises by 1": whether they do; before, both stayed
abbrev pub renews : Build → Bool
renews Build.keeping = false
renews Build.holding = false
renews Build.naming = false
renews Build.dividing = false
renews Build.renewing = true
