use Rattle.std.proofs.Common.{◌≡◌, ℕ, List, [], ◌∷◌, ◌++◌, Option, ap, ◌∙◌}
use Rattle.std.proofs.lemmas.Result.{on_ok_weaker}
use Rattle.ct_words.specs.declared.entry.Entry.{Entry}
use Rattle.ct_text.specs.EntryText.{entry_words}
use Rattle.ct_text.proofs.GrowingTexts.{puts-more, puts-six}
use Rattle.ct_kind.specs.declared.evidence.Evidence.{Evidence}
use Rattle.ct_files.specs.ByKind.{kind_of}
use Rattle.ct_piece.specs.Piece.{PieceValue}
use Rattle.ct_piece.specs.Text.{size_text, cites_text, piece_text}
use Rattle.ct_piece.proofs.text.put_piece.Goals as goal

-- the line of the parts as they were put
abbrev line : List ℕ → List ℕ → Entry → Option ℕ → List (List ℕ) → List ℕ
line id kind e size cites = id ++ 32 ∷ [] ++ kind ++ 32 ∷ [] ++ entry_words e ++ size_text size ++ cites_text cites

line_is : (p : PieceValue) (id kind : List ℕ) (e : Entry) (size : Option ℕ) (cites : List (List ℕ)) → id ≡ p.id → kind ≡ (kind_of p.evidence).text → e ≡ p.entry → size ≡ p.size
    → cites ≡ p.cites → line id kind e size cites ≡ piece_text p
line_is p id kind e size cites id-is kind-is e-is size-is cites-is =
    ap (λ (i : List ℕ). line i kind e size cites) id-is ∙ ap (λ (k : List ℕ). line p.id k e size cites) kind-is
    ∙ ap (λ (x : Entry). line p.id (kind_of p.evidence).text x size cites) e-is
    ∙ ap (λ (s : Option ℕ). line p.id (kind_of p.evidence).text p.entry s cites) size-is
    ∙ ap (λ (cs : List (List ℕ)). line p.id (kind_of p.evidence).text p.entry p.size cs) cites-is

pub returns : goal.returns
returns c =
    let text = c.args.text.now.items in
    let id = c.text.result.now in
    let kind = c.kind_of.result.text.now in
    let e = c.entry.result in
    let size = c.size.result in
    let cites = c.cites.result.now in
    let before =
    puts-six text id (32 ∷ []) kind (32 ∷ []) (entry_words e) (size_text size) c.extend_from_slice.new.self.items c.push.new.self.items c.extend_from_slice-2.new.self.items
    c.push-2.new.self.items c.put_entry_words.new.text.items c.put_size.new.text.items c.in_ok-extend_from_slice.ensures.items c.in_ok-push.ensures.items
    c.in_ok-extend_from_slice-2.ensures.items c.in_ok-push-2.ensures.items c.in_ok-put_entry_words.ensures c.in_ok-put_size.ensures.ok in
    let kind_is = c.kind_of.ensures.text ∙ ap (λ (e : Evidence). (kind_of e).text) c.evidence.ensures.evidence in
    let is = line_is c.args.piece.now id kind e size cites (c.text.ensures.text ∙ c.id.ensures) kind_is c.entry.ensures c.size.ensures c.cites.ensures.cites in
    on_ok_weaker c.put_cites.result
    (λ put. puts-more text (id ++ 32 ∷ [] ++ kind ++ 32 ∷ [] ++ entry_words e ++ size_text size) (cites_text cites) c.put_size.new.text.items c.put_cites.new.text.items before put
    ∙ ap (λ (l : List ℕ). text ++ l) is) c.put_cites.ensures
