-- Module 2, how many buckets a new shelf gets.
use Rattle.std.specs.Prelude.{ℕ, zero, suc, ◌-◌, ◌*◌, ◌/◌, min, max, leb, if◌then◌else◌}
use Rattle.rules.specs.Limits.{records_most}
use Rattle.rules.specs.Builds.{Build, least_count}

-- the first of p, 2 p, 4 p, .. that is at least n, among k + 1 of them
unfoldable pub doubled : ℕ → ℕ → ℕ → ℕ
doubled zero n p = p
doubled (suc k) n p = if leb n p then p else doubled k n (2 * p)

-- "raised to the next power of two"
unfoldable pub power_of_two : ℕ → ℕ
power_of_two n = doubled 32 n 1

-- "0 to 4 gives 1, 5 to 16 gives 2, 17 to 32 gives 4; above that, n/16 - 1 raised to the next power of two". T-06: "From now on every ratio above
-- 32 gives at least 4 buckets before the cap."
unfoldable pub by_ratio : Build → ℕ → ℕ
by_ratio build n =
    if leb n 4 then 1 else if leb n 16 then 2 else if leb n 32 then 4 else max (least_count build) (power_of_two (n / 16 - 1))

-- "Ratio n = column width / max(w, shelf height), rounded down, with the final shelf height of module 5 and not the request's"
unfoldable pub ratio : ℕ → ℕ → ℕ → ℕ
ratio column_width w height = column_width / max w height

-- "Then at most 4,095 less the present bucket count. That count includes released buckets."
unfoldable pub bucket_count : Build → ℕ → ℕ → ℕ → ℕ → ℕ
bucket_count build column_width w height buckets = min (by_ratio build (ratio column_width w height)) (records_most - buckets)
