-- The limits of document 01's domain, each in one place.
use Rattle.std.specs.Prelude.{ℕ, ◌+◌, ◌*◌}

-- "sides 1 to 46,340 (46,340 squared is 2,147,395,600 and fits an i32)"
abbrev pub side_most : ℕ
side_most = 46340

-- "both alignments 1 to 46,340; columns 1 to 46,340"
abbrev pub option_most : ℕ
option_most = 46340

-- "At most 4,095 buckets. Every shelf has a bucket of its own, so at most 4,095 shelves. The caller lends room for 4,095 of each."
abbrev pub records_most : ℕ
records_most = 4095

-- "a request side above 65,535"
abbrev pub request_most : ℕ
request_most = 65535

-- "its item count below 4,095": a search takes a bucket only below this
abbrev pub items_most : ℕ
items_most = 4095

-- "a bucket whose item count is 65,535": a merge can not count one more
abbrev pub items_last : ℕ
items_last = 65535

-- "A chain ends with 65,535."
abbrev pub none : ℕ
none = 65535

-- the most that a number of 16 bits can be
abbrev pub number_most : ℕ
number_most = 65535

-- T-03: "for sizes 0 to 512 from a constant table"
abbrev pub tabled_most : ℕ
tabled_most = 512

-- T-05: "Offsets count to 4,294,967,295"
abbrev pub offset_most : ℕ
offset_most = 4294967295

-- T-05: the most that is held over, a byte less than the longest record, a new with the two bytes of its length
abbrev pub held_most : ℕ
held_most = 24

-- the bytes of a stop's line at most; a record's line is at most 7 times as long as the record
abbrev pub stop_most : ℕ
stop_most = 27

-- T-01: the bytes of a file's records, the length's own two among them: a header, a shelf, a bucket
abbrev pub head_bytes : ℕ
head_bytes = 33

abbrev pub shelf_bytes : ℕ
shelf_bytes = 14

abbrev pub bucket_bytes : ℕ
bucket_bytes = 18

-- and the most that a file of sound tables takes, with its end
abbrev pub file_most : ℕ
file_most = head_bytes + shelf_bytes * records_most + bucket_bytes * records_most + 4

-- T-07: the most that a picture of sound tables takes: a line of a rectangle is at most 72 bytes, two for each bucket, and with the first line, that of
-- the whole atlas and the last it is less than two lines more
abbrev pub picture_most : ℕ
picture_most = 72 * (2 * records_most + 2)
