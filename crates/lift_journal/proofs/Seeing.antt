-- What is read after an open gate, against what stands there.
use Rattle.std.proofs.Common.{◌≡◌, ◌<◌, ◌≤◌, ◌+◌, ◌^◌, ℕ, Bool, true, false, cond, nat_lt, List, [], ◌∷◌, ◌++◌, length, take, drop, replicate, refl, sym, ◌∙◌, ap, subst, arith}
use Rattle.std.proofs.lemmas.List.{drop_more}
use Rattle.std.proofs.lemmas.Option.{unwrap_or-slice_get}
use Rattle.lift_base.specs.declared.history.Record.{Record}
use Rattle.lift_disk.specs.Disk.{Image}
use Rattle.lift_record.specs.declared.headers.Header.{Header}
use Rattle.lift_record.specs.Header.{header_bytes, IsHeaderSpelling}
use Rattle.lift_record.specs.lemmas.Spellings.{header_versions, header_counts}
use Rattle.lift_journal.specs.Layout.{Batch, body_size, size_of, IsBody, sector_at}
use Rattle.lift_journal.specs.Walk.{IsBatchAt}
use Rattle.lift_journal.specs.Seen.{IsTailOf}
use Rattle.lift_journal.proofs.Texts.{body_found, body_sectors, header_of_body, text_of_body, tail_of_text}

pub bodies_few : (count : ℕ) → (1 ≤ body_size count) × (body_size count ≤ 2)
bodies_few count = by_size (nat_lt count 32)
  where
    by_size : (b : Bool) → (1 ≤ cond b 1 2) × (cond b 1 2 ≤ 2)
    by_size true = (omega arith, omega arith)
    by_size false = (omega arith, omega arith)

module _ (image : Image) (gate end number : ℕ) where
  -- there is no room for a batch
  pub no_room : end ≤ gate + 2 → (batch : Batch) → ¬ IsBatchAt image gate end number batch
  no_room short batch there = omega (arith, short, there.next, bodies_few (length batch.records))

  module _ (first : List ℕ) (is : sector_at image (gate + 1) ≡ first) (long : length first ≡ 512) (within : end ≤ length image) where
    pub header_there : (batch : Batch) → IsBatchAt image gate end number batch → take 16 first ≡ header_bytes batch.version (length batch.records) number
    header_there batch there =
        let inside : gate + 1 < length image = omega (arith, within, there.next) in
        let split : drop (gate + 1) image ≡ first ∷ drop (gate + 1 + 1) image =
        drop_more image (gate + 1) [] inside ∙ ap (λ (s : List ℕ). s ∷ drop (gate + 1 + 1) image) (sym (unwrap_or-slice_get image (gate + 1) []) ∙ is) in
        header_of_body number batch first (drop (gate + 1 + 1) image) (omega (arith, long))
        (subst (λ (l : Image). IsBody number batch (take (size_of batch) l)) split there.body)

    -- no header, no batch
    pub no_header : 1 ≤ number → number < 2 ^ 32 → ((header : Header) → IsHeaderSpelling (take 16 first) header → ¬ (header.number ≡ number))
        → (batch : Batch) → ¬ IsBatchAt image gate end number batch
    no_header some fits none batch there =
        let header : Header = record { version = batch.version; count = length batch.records; number = number } in
        none header (record {
          count_range = (there.body.some, there.body.few);
          number_range = (some, fits);
          spelled = header_there batch there;
        }) refl

    module _ (header : Header) (spelled : IsHeaderSpelling (take 16 first) header) (numbered : header.number ≡ number) where
      same_header : (batch : Batch) → IsBatchAt image gate end number batch → header_bytes header.version header.count header.number ≡ header_bytes batch.version (length batch.records) number
      same_header batch there = sym spelled.spelled ∙ header_there batch there

      pub same_count : (batch : Batch) → IsBatchAt image gate end number batch → header.count ≡ length batch.records
      same_count batch there =
          header_counts header.version batch.version header.count (length batch.records) header.number number
          (omega (arith, spelled.count_range)) (omega (arith, there.body.few)) (same_header batch there)

      pub same_version : (batch : Batch) → IsBatchAt image gate end number batch → header.version ≡ batch.version
      same_version batch there = header_versions header.version batch.version header.count (length batch.records) header.number number (same_header batch there)

      -- the next gate would not stand below the end
      pub no_next : end ≤ gate + 1 + body_size header.count → (batch : Batch) → ¬ IsBatchAt image gate end number batch
      no_next short batch there =
          let next : gate + 1 + body_size header.count < end = subst (λ k. gate + 1 + body_size k < end) (sym (same_count batch there)) there.next in
          omega (arith, short, next)

      module _ (second : List ℕ) (two : length second ≡ 512) (next : body_size header.count ≡ 2 → sector_at image (gate + 2) ≡ second)
          (blank : body_size header.count ≡ 1 → second ≡ replicate 512 0) (room : gate + 1 + body_size header.count < end) where
        sectors : take (body_size header.count) (drop (gate + 1) image) ≡ take (body_size header.count) (first ∷ second ∷ [])
        sectors = body_sectors (body_size header.count) (gate + 1) image first second (bodies_few header.count) (omega (arith, room, within)) is
            (λ more. (let there : gate + 1 + 1 ≡ gate + 2 = omega arith in ap (λ k. sector_at image k) there ∙ next more))

        -- the records that were read
        pub batch_there : (batch : Batch) → batch.version ≡ header.version → length batch.records ≡ header.count
            → IsTailOf header.version batch.records (drop 16 (first ++ second)) → IsBatchAt image gate end number batch
        batch_there batch version counted tail =
            let head : take 16 first ≡ header_bytes batch.version (length batch.records) number =
            spelled.spelled ∙ ap (λ v. header_bytes v header.count header.number) (sym version) ∙ ap (λ k. header_bytes batch.version k header.number) (sym counted)
            ∙ ap (λ k. header_bytes batch.version (length batch.records) k) numbered in
            let body = body_found number batch first second long two (omega (arith, counted, spelled.count_range)) (omega (arith, counted, spelled.count_range)) head
            (subst (λ v. IsTailOf v batch.records (drop 16 (first ++ second))) (sym version) tail) in
            let here : take (size_of batch) (first ∷ second ∷ []) ≡ take (size_of batch) (drop (gate + 1) image) =
            ap (λ k. take (body_size k) (first ∷ second ∷ [])) counted ∙ sym sectors ∙ ap (λ k. take (body_size k) (drop (gate + 1) image)) (sym counted) in
            record {
              body = subst (IsBody number batch) here body;
              next = subst (λ k. gate + 1 + body_size k < end) (sym counted) room;
            }

        -- no records, no batch
        pub no_records : ((records : List Record) → length records ≡ header.count → ¬ IsTailOf header.version records (drop 16 (first ++ second)))
            → (batch : Batch) → ¬ IsBatchAt image gate end number batch
        no_records none batch there =
            let count = same_count batch there in
            let version = same_version batch there in
            let here : take (size_of batch) (drop (gate + 1) image) ≡ take (size_of batch) (first ∷ second ∷ []) =
            ap (λ k. take (body_size k) (drop (gate + 1) image)) (sym count) ∙ sectors ∙ ap (λ k. take (body_size k) (first ∷ second ∷ [])) count in
            let body = subst (IsBody number batch) here there.body in
            let text = text_of_body number batch first second body (λ one. blank (ap body_size count ∙ one)) in
            none batch.records (sym count) (subst (λ v. IsTailOf v batch.records (drop 16 (first ++ second))) (sym version) (tail_of_text number batch first second body.lawful text))
