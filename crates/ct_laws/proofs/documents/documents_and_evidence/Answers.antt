use Rattle.ct_files.proofs.Documents.{read_of-part, document_read_of-err, document_read_of-fault, accepted_document, accepted_document-from}
use Rattle.ct_laws.proofs.documents.documents_and_evidence.Goals as goal

pub returns : goal.returns
returns c = record {
  evidence = read_of-part;
  fault = λ bytes fault. (document_read_of-err bytes fault, document_read_of-fault bytes fault);
  accepted = λ bytes d. (accepted_document bytes d, accepted_document-from bytes d);
}
