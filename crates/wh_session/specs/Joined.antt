-- records joined
use Rattle.std.proofs.Common.{◌≡◌, append-nil, append_assoc}
use Rattle.wh_session.specs.Machines.{Records, nothing, joined}

pub same_records : (a b : Records) → a.log ≡ b.log → a.more ≡ b.more → a ≡ b
same_records a b p q i = record { log = p i; more = q i }

pub joined_nil : (a : Records) → joined a nothing ≡ a
joined_nil a = same_records (joined a nothing) a (append-nil a.log) (append-nil a.more)

pub joined_assoc : (a b c : Records) → joined (joined a b) c ≡ joined a (joined b c)
joined_assoc a b c = same_records (joined (joined a b) c) (joined a (joined b c)) (append_assoc a.log b.log c.log) (append_assoc a.more b.more c.more)
